-- Which entries of a log change the attempts of a competitor in a round (the project's own).
use Rattle.std.specs.Prelude.{◌≡◌, ◌<◌, ◌≤◌, ◌+◌, ℕ, ◌==◌, ◌&&◌, Bool, true, false, List, length}
use Rattle.std.specs.Prelude.{slice_get, Option, None, Some, Result, Ok, Err}
use Rattle.std.specs.Option.{option_map_or}
use Rattle.acceptor.specs.declared.entry.Entry.{Entry}
use Rattle.commands.specs.Accepted.{is_of}
use Rattle.answers.specs.Transcripts.{answer_at}
use Rattle.texts.specs.declared.answer.Answer.{Answer, TheVariants.Done, TheVariants.Refused}
use Rattle.texts.specs.declared.command.{Command.Command, RemarkedCommand.RemarkedCommand}
use Rattle.texts.specs.declared.command.Command.TheVariants.{Attempt, Correct, Strike, Card, Fix}
use Rattle.texts.specs.declared.{command.RoundId.RoundId, reading.CommandFault.CommandFault}
use Rattle.texts.specs.Reading.{command_of}

-- a command that enters, corrects or strikes an attempt of the competitor in the round, or is a
-- card of the competitor
abbrev pub changes : RoundId → ℕ → Command → Bool
changes round number (Attempt entry) =
    is_of round.event round.round entry.id && entry.number == number
changes round number (Correct entry) =
    is_of round.event round.round entry.id && entry.number == number
changes round number (Strike id struck) = is_of round.event round.round id && struck == number
changes round number (Card card) =
    is_of round.event round.round card.id && card.number == number
changes round number (Fix card) =
    is_of round.event round.round card.id && card.number == number
changes round number _ = false

-- what a text reads as is such a command
abbrev pub reads_change : RoundId → ℕ → Result RemarkedCommand CommandFault → Bool
reads_change round number (Ok told) = changes round number told.command
reads_change round number (Err fault) = false

-- the text at a position spells such a command
abbrev pub reads_change_at : List Entry → RoundId → ℕ → ℕ → Bool
reads_change_at log round number position =
    option_map_or (λ e. reads_change round number (command_of e.text)) (slice_get log position)
    false

abbrev pub is_done : Option Answer → Bool
is_done None = false
is_done (Some Done) = true
is_done (Some (Refused why)) = false

-- the entry at a position was accepted
abbrev pub is_accepted : List Entry → ℕ → Bool
is_accepted log position = is_done (answer_at log position)

-- the entry at a position was accepted and is such a command
abbrev pub is_change : List Entry → RoundId → ℕ → ℕ → Bool
is_change log round number position =
    is_accepted log position && reads_change_at log round number position

-- none of the entries from a position on is such a change
abbrev pub HasNoChangeFrom : List Entry → RoundId → ℕ → ℕ → Type 0
HasNoChangeFrom log round number from =
    (position : ℕ) → from ≤ position → position < length log
    → is_change log round number position ≡ false

-- the last such change of a log
abbrev pub IsLastChange : List Entry → RoundId → ℕ → Option ℕ → Type 0
IsLastChange log round number None = HasNoChangeFrom log round number 0
IsLastChange log round number (Some position) =
    (position < length log) × (is_change log round number position ≡ true)
    × HasNoChangeFrom log round number (position + 1)
