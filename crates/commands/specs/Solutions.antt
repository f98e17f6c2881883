-- Whether what was entered last for an attempt is a solution (the project's own).
use Rattle.std.specs.Prelude.{ℕ, suc, Bool, true, false, ◌==◌, ◌&&◌, if◌then◌else◌, List, [], ◌∷◌}
use Rattle.std.specs.Prelude.{unwrap_or, Option, None, Some}
use Rattle.std.specs.Option.{option_map_or, option_map}
use Rattle.formats.specs.declared.events.Event.{Event}
use Rattle.texts.specs.declared.command.{Command.Command, Entered.Entered}
use Rattle.texts.specs.declared.command.Command.TheVariants.{Attempt, Correct, Card, Fix}
use Rattle.commands.specs.{Standing.last_of, Openings.is_of, Openings.Opened, Openings.opened}
use Rattle.texts.specs.declared.command.Entered.TheVariants as entered

-- a solution was entered
abbrev pub is_solution : Entered → Bool
is_solution (entered.Solution solution) = true
is_solution _ = false

-- a card enters a solution for attempt k, or something else; its attempts are counted from j
abbrev pub solving_at : ℕ → ℕ → List (Option Entered) → Option Bool
solving_at k j [] = None
solving_at k j (x ∷ xs) = if k == j then option_map is_solution x else solving_at k (suc j) xs

-- a command enters a solution for attempt k of a number, or something else
abbrev pub solving : Event → ℕ → ℕ → ℕ → Command → Option Bool
solving e r k n (Attempt entry) =
    if is_of e r entry.id && (n == entry.number && k == entry.attempt)
    then Some (is_solution entry.outcome) else None
solving e r k n (Correct entry) =
    if is_of e r entry.id && (n == entry.number && k == entry.attempt)
    then Some (is_solution entry.outcome) else None
solving e r k n (Card card) =
    if is_of e r card.id && n == card.number then solving_at k 1 card.now else None
solving e r k n (Fix card) =
    if is_of e r card.id && n == card.number then solving_at k 1 card.now else None
solving e r k n _ = None

-- what was entered last for attempt k of a number is a solution
abbrev pub is_solved_since : Event → ℕ → ℕ → ℕ → Opened → Bool
is_solved_since e r k n o = unwrap_or (last_of (solving e r k n) o.since) false

abbrev pub is_solved : List Command → Event → ℕ → ℕ → ℕ → Bool
is_solved cs e r k n = option_map_or (is_solved_since e r k n) (opened e r [] cs) false
