-- What each code means, in a few words: this project's own.
use Rattle.std.specs.Prelude.{ℕ, List, codes}
use Rattle.texts.specs.declared.answer.Code.{Code, TheVariants.Closed}
use Rattle.texts.specs.declared.answer.Code.TheVariants.{Unread, RoundsRule, NoScramble, NotEntered}
use Rattle.texts.specs.declared.answer.Code.TheVariants.{Repeat, OutOfOrder, CutoffLost, Unfinished}
use Rattle.texts.specs.declared.answer.Code.TheVariants.{UnknownCompetitor, FormatNotAllowed, Full}
use Rattle.texts.specs.declared.answer.Code.TheVariants.{NameTaken, RoundOpen, NotClosed, Changed}
use Rattle.texts.specs.declared.answer.Code.TheVariants.{RoundUnknown, WrongOutcome, NoSuchAttempt}
use Rattle.texts.specs.declared.answer.Code.TheVariants.{CutoffNotAllowed, LimitNotAllowed, Already}
use Rattle.texts.specs.declared.answer.Code.TheVariants.{ScrambleThere, NoMoreAttempts, HasAttempts}

abbrev pub meaning_of : Code → List ℕ
meaning_of Unread = codes "not a command of this edition"
meaning_of Repeat = codes "this id was entered before"
meaning_of UnknownCompetitor = codes "nobody is registered under this number"
meaning_of NameTaken = codes "another number has this name"
meaning_of RoundUnknown = codes "the round is not opened, or the one before it is not closed"
meaning_of RoundOpen = codes "the round was opened before, or the next one is open"
meaning_of RoundsRule = codes "too few competitors for the rounds that would follow"
meaning_of FormatNotAllowed = codes "the event does not have this format"
meaning_of CutoffNotAllowed = codes "the event or the format does not allow this cutoff"
meaning_of LimitNotAllowed = codes "a timed event needs a time limit, any other has none"
meaning_of NoScramble = codes "the attempt has no scramble yet"
meaning_of ScrambleThere = codes "the attempt has its scramble already"
meaning_of WrongOutcome = codes "the event does not accept such a result"
meaning_of Closed = codes "the round is closed"
meaning_of Already = codes "it is there already"
meaning_of Full = codes "the round has 999 entrants"
meaning_of NotEntered = codes "the competitor is not in this round"
meaning_of OutOfOrder = codes "the attempt is not the next one"
meaning_of NoMoreAttempts = codes "this competitor has no attempt left"
meaning_of NoSuchAttempt = codes "there is no such attempt"
meaning_of CutoffLost = codes "the cutoff would be missed, and attempts after it are done"
meaning_of Unfinished = codes "somebody still has attempts to do"
meaning_of HasAttempts = codes "an attempt is entered already"
meaning_of NotClosed = codes "the round is not closed"
meaning_of Changed = codes "the attempts have changed since the card was written"
