-- A command that is reported saved, and above all a card (the project's own).
use Rattle.std.specs.Prelude.{◌≡◌, ℕ, ◌+◌, true, List, [], ◌∷◌, ◌++◌, take, None, Some, Ok}
use Rattle.acceptor.specs.declared.entry.Entry.{Entry}
use Rattle.answers.specs.Answers.{texts}
use Rattle.commands.specs.Accepted.{are_values, refusal, round_by}
use Rattle.commands.specs.History.{history}
use Rattle.learner.specs.Laws.{IsPrefix}
use Rattle.rounds.specs.Tables.{Entrant, Table, entrant}
use Rattle.texts.specs.{Reading.command_of, declared.command.RemarkedCommand.RemarkedCommand}
use Rattle.texts.specs.declared.command.{CardEntry.CardEntry, Command.Command, Settings.Settings}
use Rattle.texts.specs.declared.command.Command.TheVariants.{Card, Fix}
use Rattle.outbox.specs.States.{state_of}
use Rattle.outbox.specs.declared.state.ItemState.TheVariants as state

-- the commands that were accepted of the first entries of a log
abbrev pub accepted_of : List Entry → ℕ → List Command
accepted_of log count = (history (texts (take count log))).accepted

-- the text of an entry is a command, with a remark or without one
pub record Says (entry : Entry) (command : Command) : Type 0 where
  pub told : RemarkedCommand
  pub reads : command_of entry.text ≡ Ok told
  pub is : told.command ≡ command

-- the entry at a position of a log entered a command: it was accepted after those in front of it,
-- and it is the next accepted one
pub record IsEnteredAt (log : List Entry) (position : ℕ) (command : Command) : Type 0 where
  pub accepted : refusal (accepted_of log position) command ≡ None
  pub added : accepted_of log (position + 1) ≡ accepted_of log position ++ command ∷ []

-- a command that is reported saved was entered there, in every log that begins with what the mirror
-- holds
abbrev pub SavedIsEntered : Type 0
SavedIsEntered =
    (held log : List Entry) (entry : Entry) (position : ℕ) (command : Command)
    → IsPrefix held log → state_of held entry ≡ state.Saved position → Says entry command
    → IsEnteredAt log position command

-- after these commands the entrant of a card has the values that its writer saw
pub record AreSeen (cs : List Command) (card : CardEntry) : Type 0 where
  pub round : Settings × Table
  pub one : Entrant
  pub opened : round_by cs card.id ≡ Some round
  pub held : entrant round.1 card.number ≡ Some one
  pub seen : are_values card.was one.values ≡ true

-- Where the card of an entry is reported saved, just in front of it the entrant had the values that
-- the confirmed page showed. `card_laws` says which values the entrant has just after it, as after
-- any next accepted command.
abbrev pub SavedOverWhatWasSeen : (CardEntry → Command) → Type 0
SavedOverWhatWasSeen command =
    (held log : List Entry) (entry : Entry) (position : ℕ) (card : CardEntry)
    → IsPrefix held log → state_of held entry ≡ state.Saved position
    → Says entry (command card) → AreSeen (accepted_of log position) card

-- the same of a card in an open round and of one in a closed round
abbrev pub SavedCardIsOverWhatWasSeen : Type 0
SavedCardIsOverWhatWasSeen = SavedOverWhatWasSeen Card

abbrev pub SavedFixIsOverWhatWasSeen : Type 0
SavedFixIsOverWhatWasSeen = SavedOverWhatWasSeen Fix
