-- What a competition's file lets one ask of the times of a card (the project's own).
use Rattle.std.specs.Prelude.{ℕ, ◌+◌, ◌*◌, nat_lt, if◌then◌else◌, List, [], ◌∷◌, ◌++◌, find}
use Rattle.std.specs.{Prelude.Option, Prelude.None, Prelude.Some, Option.option_and_then}
use Rattle.attempts.specs.declared.Unit.{Unit as Measure}
use Rattle.attempts.specs.declared.Unit.TheVariants.{Time, Moves, Multi}
use Rattle.commands.specs.Accepted.{round_by}
use Rattle.competition_file.specs.{Bests.best_of, Fields.field_best, Files.data_of, Files.persons}
use Rattle.competition_file.specs.declared.bests.ResultKind.TheVariants.{Single}
use Rattle.formats.specs.Events.{unit_of}
use Rattle.texts.specs.declared.command.{CardEntry.CardEntry, Command.Command, Entered.Entered}
use Rattle.texts.specs.declared.command.RoundId.{RoundId}
use Rattle.wcif.specs.Persons.{has_number}
use Rattle.table_entry_views.specs.Bounds.{time_of}
use Rattle.table_entry_views.specs.declared.{doubts.FileBests.FileBests, notes.CardNote.CardNote}
use Rattle.table_entry_views.specs.declared.notes.CardNote.TheVariants.{BelowBest, BelowField}

-- the best single in the file of the card's competitor, in the card's event
abbrev pub own_best : List ℕ → CardEntry → Option ℕ
own_best file card =
    option_and_then (best_of card.id.event Single)
    (find (has_number card.number) (persons (data_of file)))

-- the least best single in the file of those who are in a round
abbrev pub round_best : List ℕ → List Command → RoundId → Option ℕ
round_best file accepted id =
    option_and_then (λ round. field_best id.event round.1 (persons (data_of file)))
    (round_by accepted id)

abbrev pub bests_in : List ℕ → List Command → CardEntry → Measure → FileBests
bests_in file accepted card Time = record {
  own = own_best file card;
  field = round_best file accepted card.id;
}
bests_in file accepted card Moves = record { own = None; field = None }
bests_in file accepted card Multi = record { own = None; field = None }

-- what the times of a card are compared with: nothing where times are not what counts
abbrev pub bests_of : List ℕ → List Command → CardEntry → FileBests
bests_of file accepted card = bests_in file accepted card (unit_of card.id.event)

-- a time is less than 0.8 of the competitor's best
abbrev pub best_notes : ℕ → ℕ → Option ℕ → List CardNote
best_notes attempt time None = []
best_notes attempt time (Some best) =
    if nat_lt (10 * time) (8 * best) then BelowBest attempt time best ∷ [] else []

-- a time is less than half of the best of those who are in the round
abbrev pub field_notes : ℕ → ℕ → Option ℕ → List CardNote
field_notes attempt time None = []
field_notes attempt time (Some best) =
    if nat_lt (2 * time) best then BelowField attempt time best ∷ [] else []

abbrev pub asked : FileBests → ℕ → Option ℕ → List CardNote
asked bests attempt None = []
asked bests attempt (Some time) =
    best_notes attempt time bests.own ++ field_notes attempt time bests.field

-- what is asked of the field of an attempt, if it is a time
abbrev pub asked_of : FileBests → ℕ → Option Entered → List CardNote
asked_of bests attempt field = asked bests attempt (time_of field)

-- what is asked of the fields of the attempts, from this one on
abbrev pub notes_from : FileBests → ℕ → List (Option Entered) → List CardNote
notes_from bests attempt [] = []
notes_from bests attempt (field ∷ fields) =
    asked_of bests attempt field ++ notes_from bests (attempt + 1) fields

-- what a competition's file lets one ask of a card
abbrev pub file_notes : List ℕ → List Command → CardEntry → List CardNote
file_notes file accepted card = notes_from (bests_of file accepted card) 1 card.now
