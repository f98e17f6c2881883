-- The numbers and the names of the codes: this project's own.
use Rattle.std.specs.Prelude.{ℕ, ◌==◌, List, [], ◌∷◌, codes, find, Option}
use Rattle.texts.specs.declared.answer.Code.{Code, TheVariants.Closed}
use Rattle.texts.specs.declared.answer.Code.TheVariants.{Unread, RoundsRule, NoScramble, NotEntered}
use Rattle.texts.specs.declared.answer.Code.TheVariants.{Repeat, OutOfOrder, CutoffLost, Unfinished}
use Rattle.texts.specs.declared.answer.Code.TheVariants.{UnknownCompetitor, FormatNotAllowed, Full}
use Rattle.texts.specs.declared.answer.Code.TheVariants.{NameTaken, RoundOpen, NotClosed, Changed}
use Rattle.texts.specs.declared.answer.Code.TheVariants.{RoundUnknown, WrongOutcome, NoSuchAttempt}
use Rattle.texts.specs.declared.answer.Code.TheVariants.{CutoffNotAllowed, LimitNotAllowed, Already}
use Rattle.texts.specs.declared.answer.Code.TheVariants.{ScrambleThere, NoMoreAttempts, HasAttempts}

abbrev pub code_number : Code → ℕ
code_number Unread = 1
code_number Repeat = 2
code_number UnknownCompetitor = 3
code_number NameTaken = 4
code_number RoundUnknown = 5
code_number RoundOpen = 6
code_number RoundsRule = 7
code_number FormatNotAllowed = 8
code_number CutoffNotAllowed = 9
code_number LimitNotAllowed = 10
code_number NoScramble = 11
code_number ScrambleThere = 12
code_number WrongOutcome = 13
code_number Closed = 14
code_number Already = 15
code_number Full = 16
code_number NotEntered = 17
code_number OutOfOrder = 18
code_number NoMoreAttempts = 19
code_number NoSuchAttempt = 20
code_number CutoffLost = 21
code_number Unfinished = 22
code_number HasAttempts = 23
code_number NotClosed = 24
code_number Changed = 25

-- all codes, in the order of their numbers
abbrev pub every_code : List Code
every_code =
    Unread ∷ Repeat ∷ UnknownCompetitor ∷ NameTaken ∷ RoundUnknown ∷ RoundOpen ∷ RoundsRule ∷
    FormatNotAllowed ∷ CutoffNotAllowed ∷ LimitNotAllowed ∷ NoScramble ∷ ScrambleThere ∷
    WrongOutcome ∷ Closed ∷ Already ∷ Full ∷ NotEntered ∷ OutOfOrder ∷ NoMoreAttempts ∷
    NoSuchAttempt ∷ CutoffLost ∷ Unfinished ∷ HasAttempts ∷ NotClosed ∷ Changed ∷ []

-- the code of a number
unfoldable pub code_numbered : ℕ → Option Code
code_numbered n = find (λ c. code_number c == n) every_code

abbrev pub code_name : Code → List ℕ
code_name Unread = codes "Unread"
code_name Repeat = codes "Repeat"
code_name UnknownCompetitor = codes "UnknownCompetitor"
code_name NameTaken = codes "NameTaken"
code_name RoundUnknown = codes "RoundUnknown"
code_name RoundOpen = codes "RoundOpen"
code_name RoundsRule = codes "RoundsRule"
code_name FormatNotAllowed = codes "FormatNotAllowed"
code_name CutoffNotAllowed = codes "CutoffNotAllowed"
code_name LimitNotAllowed = codes "LimitNotAllowed"
code_name NoScramble = codes "NoScramble"
code_name ScrambleThere = codes "ScrambleThere"
code_name WrongOutcome = codes "WrongOutcome"
code_name Closed = codes "Closed"
code_name Already = codes "Already"
code_name Full = codes "Full"
code_name NotEntered = codes "NotEntered"
code_name OutOfOrder = codes "OutOfOrder"
code_name NoMoreAttempts = codes "NoMoreAttempts"
code_name NoSuchAttempt = codes "NoSuchAttempt"
code_name CutoffLost = codes "CutoffLost"
code_name Unfinished = codes "Unfinished"
code_name HasAttempts = codes "HasAttempts"
code_name NotClosed = codes "NotClosed"
code_name Changed = codes "Changed"
