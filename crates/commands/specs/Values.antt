-- The values of what was entered for an entrant's attempts (the project's own).
use Rattle.std.specs.Prelude.{ℕ, suc, ◌==◌, ◌&&◌, if◌then◌else◌, List, [], ◌∷◌, ◌++◌, Option, None}
use Rattle.std.specs.Prelude.{Some}
use Rattle.cube.specs.declared.moves.Move.{Move}
use Rattle.fmc_check.specs.Fewest.{result_of}
use Rattle.attempts.specs.{declared.Value.Value, Attempts.value_of, declared.Outcome.Outcome}
use Rattle.formats.specs.declared.events.Event.{Event}
use Rattle.texts.specs.declared.command.{Command.Command, AttemptEntry.AttemptEntry}
use Rattle.texts.specs.declared.command.Command.TheVariants.{Attempt, Correct, Strike, Card, Fix}
use Rattle.texts.specs.declared.command.{RoundId.RoundId, Entered.Entered, Settings.Settings}
use Rattle.rounds.specs.Tables.{replaced, without_last}
use Rattle.commands.specs.{Openings.is_of, Openings.settings_after, Scrambles.scramble_in}
use Rattle.attempts.specs.declared.Outcome.TheVariants as outcome
use Rattle.texts.specs.declared.command.Entered.TheVariants as entered

-- the outcome of a solution under a scramble; without a scramble no solution is taken
abbrev pub solved_under : Option (List Move) → List Move → Outcome
solved_under None solution = outcome.Dnf
solved_under (Some scramble) solution = outcome.Solution (result_of scramble solution)

-- what was entered, a solution by its result under the attempt's scramble
abbrev pub outcome_of : Option (List Move) → Entered → Outcome
outcome_of scramble (entered.Time time penalties) = outcome.Time time penalties
outcome_of scramble (entered.Solution solution) = solved_under scramble solution
outcome_of scramble (entered.Multi solved attempted seconds) =
    outcome.Multi solved attempted seconds
outcome_of scramble entered.Dnf = outcome.Dnf
outcome_of scramble entered.Dns = outcome.Dns

-- the value of what was entered, under the round's limit and the attempt's scramble
abbrev pub settled : Settings → Option (List Move) → Entered → Value
settled settings scramble x = value_of settings.limit (outcome_of scramble x)

-- the value that is entered for an attempt, under the settings and the scramble that these commands
-- leave; the round was opened with `settings`
abbrev pub value_entered : Event → ℕ → Settings → List Command → AttemptEntry → Value
value_entered e r settings earlier entry =
    settled (settings_after e r settings earlier) (scramble_in e r entry.attempt earlier)
    entry.outcome

-- what an outcome of attempt k counts there
abbrev pub value_counted : Event → ℕ → Settings → List Command → ℕ → Entered → Value
value_counted e r settings earlier k x =
    settled (settings_after e r settings earlier) (scramble_in e r k earlier) x

-- the values of a card's attempts from attempt k on, by what each outcome counts; those that stay
-- are of these
abbrev pub values_now : (ℕ → Entered → Value) → ℕ → List (Option Entered) → List Value → List Value
values_now counts k [] vs = []
values_now counts k (Some x ∷ xs) [] = counts k x ∷ values_now counts (suc k) xs []
values_now counts k (Some x ∷ xs) (v ∷ vs) = counts k x ∷ values_now counts (suc k) xs vs
values_now counts k (None ∷ xs) [] = values_now counts (suc k) xs []
values_now counts k (None ∷ xs) (v ∷ vs) = v ∷ values_now counts (suc k) xs vs

-- a command of a round and a number changes the values of that number in that round
abbrev pub on_values : Event → ℕ → ℕ → RoundId → ℕ → (List Value → List Value) → List Value
    → List Value
on_values e r n id m change vs = if is_of e r id && m == n then change vs else vs

-- the values of a number after one more command; `earlier` are the commands between the opening and
-- this one
abbrev pub one_value : Event → ℕ → Settings → ℕ → List Command → List Value → Command → List Value
one_value e r settings n earlier values (Attempt entry) =
    on_values e r n entry.id entry.number
    (λ vs. vs ++ value_entered e r settings earlier entry ∷ []) values
one_value e r settings n earlier values (Correct entry) =
    on_values e r n entry.id entry.number
    (replaced entry.attempt (value_entered e r settings earlier entry)) values
one_value e r settings n earlier values (Strike id m) =
    on_values e r n id m without_last values
one_value e r settings n earlier values (Card card) =
    on_values e r n card.id card.number
    (values_now (value_counted e r settings earlier) 1 card.now) values
one_value e r settings n earlier values (Fix card) =
    on_values e r n card.id card.number
    (values_now (value_counted e r settings earlier) 1 card.now) values
one_value e r settings n earlier values _ = values

-- the values of a number after more commands, one after the other
abbrev pub values_after : Event → ℕ → Settings → ℕ → List Command → List Value → List Command
    → List Value
values_after e r settings n earlier values [] = values
values_after e r settings n earlier values (c ∷ cs) =
    values_after e r settings n (earlier ++ c ∷ []) (one_value e r settings n earlier values c) cs
