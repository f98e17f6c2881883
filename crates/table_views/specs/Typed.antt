-- A card as it was typed (the project's own).
use Rattle.std.specs.Prelude.{ℕ, suc, List, [], ◌∷◌, ◌++◌, codes, Option, None, Some}
use Rattle.attempts.specs.declared.{Unit.Unit as Measure, Value.Value}
use Rattle.card_forms.specs.Readings.{shown_at}
use Rattle.scorecard.specs.Typed.{entered_typed}
use Rattle.texts.specs.declared.command.Entered.{Entered}

-- what a card says of the attempt at a place, counted from 0; if it leaves the attempt as it is,
-- what counted before
abbrev pub outcome_typed : Measure → List Value → ℕ → Option Entered → List ℕ
outcome_typed unit was place None = shown_at unit was place
outcome_typed unit was place (Some x) = entered_typed x

-- an attempt that stays is marked
abbrev pub span_start : Option Entered → List ℕ
span_start None = codes "<span class=\"kept\">"
span_start (Some x) = codes "<span>"

abbrev pub outcome_span : Measure → List Value → ℕ → Option Entered → List ℕ
outcome_span unit was place outcome =
    span_start outcome ++ outcome_typed unit was place outcome ++ codes "</span>"

-- what a card says of each attempt from this place on
abbrev pub typed_from : Measure → List Value → ℕ → List (Option Entered) → List ℕ
typed_from unit was place [] = []
typed_from unit was place (outcome ∷ outcomes) =
    outcome_span unit was place outcome ++ typed_from unit was (suc place) outcomes
