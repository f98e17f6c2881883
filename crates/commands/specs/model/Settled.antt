-- A model of the code: what an entry for an attempt is found to be, before the table of its round
-- is asked, and what it then makes of the rounds that are kept.
use Rattle.std.specs.Prelude.{◌≡◌, ℕ, List, Option, None, Some}
use Rattle.cube.specs.declared.moves.Move.{Move}
use Rattle.attempts.specs.{declared.Value.Value, Attempts.IsInRangeOf}
use Rattle.rounds.specs.Tables.{Table}
use Rattle.texts.specs.declared.answer.Code.{Code}
use Rattle.texts.specs.declared.command.{AttemptEntry.AttemptEntry, Settings.Settings}
use Rattle.commands.specs.{declared.kept_rounds.KeptRounds.KeptRounds, Accepted.correct_refusal}
use Rattle.commands.specs.Accepted.{settled, unfit_refusal, entered_refusal, put_refusal}
use Rattle.commands.specs.model.Kept.{kept_by, IsKeptAt, Enters, with_attempt, with_correction}

-- the round of an entry is at this place, what was entered fits it, and this is its value there
pub record IsSettled (entry : AttemptEntry) (scramble : Option (List Move)) (kept : KeptRounds)
    (place : ℕ) (value : Value) : Type 0 where
  pub at : IsKeptAt kept.opened.items entry.id.event entry.id.round place
  pub round : Settings × Table
  pub there : kept_by entry.id kept ≡ Some round
  pub fits : unfit_refusal entry.id.event scramble entry.outcome ≡ None
  pub settles : value ≡ settled round.0 scramble entry.outcome
  pub in_range : IsInRangeOf round.1.unit value

-- an entry is refused for this cause, whatever the table of its round would say
abbrev pub IsUnfit : AttemptEntry → Option (List Move) → KeptRounds → Code → Type 0
IsUnfit entry scramble kept why =
    (asked : Settings × Table → Option Code)
    → entered_refusal entry.id.event entry.outcome scramble asked (kept_by entry.id kept) ≡ Some why

-- the first check of an attempt that fails
abbrev pub attempt_refusal : AttemptEntry → Option (List Move) → KeptRounds → Option Code
attempt_refusal entry scramble kept =
    entered_refusal entry.id.event entry.outcome scramble (put_refusal entry.number entry.attempt)
    (kept_by entry.id kept)

-- the first check of a correction that fails
abbrev pub correction_refusal : AttemptEntry → Option (List Move) → KeptRounds → Option Code
correction_refusal entry scramble kept =
    entered_refusal entry.id.event entry.outcome scramble
    (correct_refusal entry.number entry.attempt scramble entry.outcome) (kept_by entry.id kept)

-- the round of an entry has the attempt, and nothing else is changed
abbrev pub AddsAttempt : AttemptEntry → Option (List Move) → KeptRounds → KeptRounds → Type 0
AddsAttempt entry scramble old new =
    Enters entry (with_attempt entry.number scramble entry.outcome) old new

-- the round of an entry has the other value for the attempt, and nothing else is changed
abbrev pub Corrects : AttemptEntry → Option (List Move) → KeptRounds → KeptRounds → Type 0
Corrects entry scramble old new =
    Enters entry (with_correction entry.number entry.attempt scramble entry.outcome) old new
