-- What was entered last for an attempt of a competitor in a round (the project's own).
use Rattle.std.specs.Prelude.{◌≡◌, ◌<◌, ◌≤◌, ◌+◌, ℕ, suc, ◌==◌, ◌&&◌, if◌then◌else◌, Bool, true}
use Rattle.std.specs.Prelude.{false, List, [], ◌∷◌, length, get_or, map, slice_get, unwrap_or}
use Rattle.std.specs.Prelude.{is_some, Option, None, Some, Result, Ok, Err}
use Rattle.std.specs.Option.{option_and_then}
use Rattle.acceptor.specs.declared.entry.Entry.{Entry}
use Rattle.commands.specs.Accepted.{is_of}
use Rattle.texts.specs.declared.command.{AttemptEntry.AttemptEntry, CardEntry.CardEntry}
use Rattle.texts.specs.declared.command.{Command.Command, Entered.Entered, RoundId.RoundId}
use Rattle.texts.specs.declared.command.Command.TheVariants.{Attempt, Correct, Card, Fix}
use Rattle.texts.specs.{declared.command.RemarkedCommand.RemarkedCommand, Reading.command_of}
use Rattle.texts.specs.declared.reading.CommandFault.{CommandFault}
use Rattle.last_change.specs.Changes.{is_accepted}

-- ---- what a command enters for the attempt at a place, counted from 0

abbrev pub entered_by : RoundId → ℕ → ℕ → AttemptEntry → Option Entered
entered_by round number place entry =
    if is_of round.event round.round entry.id && entry.number == number
    && entry.attempt == suc place
    then Some entry.outcome else None

-- a card enters nothing where what counts stays
abbrev pub entered_on : RoundId → ℕ → ℕ → CardEntry → Option Entered
entered_on round number place card =
    if is_of round.event round.round card.id && card.number == number
    then unwrap_or (slice_get card.now place) None else None

-- of the competitor in the round
abbrev pub entered_at : RoundId → ℕ → ℕ → Command → Option Entered
entered_at round number place (Attempt entry) = entered_by round number place entry
entered_at round number place (Correct entry) = entered_by round number place entry
entered_at round number place (Card card) = entered_on round number place card
entered_at round number place (Fix card) = entered_on round number place card
entered_at round number place _ = None

abbrev pub entered_told : RoundId → ℕ → ℕ → Result RemarkedCommand CommandFault → Option Entered
entered_told round number place (Ok told) = entered_at round number place told.command
entered_told round number place (Err fault) = None

-- what the text at a position of a log enters
abbrev pub text_enters : List Entry → RoundId → ℕ → ℕ → ℕ → Option Entered
text_enters log round number place position =
    option_and_then (λ e. entered_told round number place (command_of e.text))
    (slice_get log position)

-- what the entry at a position entered, where it was accepted
abbrev pub entered_in : List Entry → RoundId → ℕ → ℕ → ℕ → Option Entered
entered_in log round number place position =
    if is_accepted log position then text_enters log round number place position else None

abbrev pub enters_in : List Entry → RoundId → ℕ → ℕ → ℕ → Bool
enters_in log round number place position =
    is_some (entered_in log round number place position)

-- ---- the last entry that entered something there

-- none of the entries from a position on did
abbrev pub HasNoneFrom : List Entry → RoundId → ℕ → ℕ → ℕ → Type 0
HasNoneFrom log round number place from =
    (position : ℕ) → from ≤ position → position < length log
    → enters_in log round number place position ≡ false

-- of the entries from a position on, this one was the last that did
abbrev pub IsLastFrom : List Entry → RoundId → ℕ → ℕ → ℕ → Option ℕ → Type 0
IsLastFrom log round number place from None = HasNoneFrom log round number place from
IsLastFrom log round number place from (Some position) =
    (position < length log) × (enters_in log round number place position ≡ true)
    × HasNoneFrom log round number place (position + 1)

-- of all entries
abbrev pub IsLastEntering : List Entry → RoundId → ℕ → ℕ → Option ℕ → Type 0
IsLastEntering log round number place found = IsLastFrom log round number place 0 found

-- the same of each of the first attempts, this many
abbrev pub AreLastEntering : List Entry → RoundId → ℕ → ℕ → List (Option ℕ) → Type 0
AreLastEntering log round number stands found =
    (place : ℕ) → place < stands → IsLastEntering log round number place (get_or found place None)

-- ---- what is done of one entry

-- the places of the attempts
abbrev pub places : List ℕ
places = 0 ∷ 1 ∷ 2 ∷ 3 ∷ 4 ∷ []

-- the last position, after those that follow it were looked at
abbrev pub last_of : Option ℕ → Bool → ℕ → Option ℕ
last_of (Some later) enters position = Some later
last_of None true position = Some position
last_of None false position = None

abbrev pub all_last : List (Option ℕ) → List Bool → ℕ → List (Option ℕ)
all_last later enters position =
    map (λ place. last_of (get_or later place None) (get_or enters place false) position) places
