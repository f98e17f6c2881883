-- Sums of values that are in their range.
use Rattle.std.proofs.Common.{◌≡◌, ℕ, ◌+◌, ◌*◌, ◌≤◌, true, List, [], ◌∷◌, length, All, sum, arith}
use Rattle.std.specs.List.{AllByRecursion}
use Rattle.std.proofs.lemmas.List.{Elements.recursion_from_All, Sums.sum_by-cons}
use Rattle.attempts.specs.declared.{Unit.Unit as Measure, Value.Value}
use Rattle.attempts.specs.declared.Unit.TheVariants.{Time, Moves, Multi}
use Rattle.attempts.specs.Attempts.{IsInRangeOf, greatest_of}
use Rattle.formats.specs.declared.events.Format.{Format}
use Rattle.formats.specs.Results.{numbers, has_average, IsFormatOf}
use Rattle.attempts.specs.declared.Value.TheVariants as value

sum-number : (n : ℕ) (vs : List Value) → sum (numbers (value.Number n ∷ vs)) ≡ n + sum (numbers vs)
sum-number n vs = sum_by-cons (λ x. x) n (numbers vs)

by_recursion : (unit : Measure) (vs : List Value) → greatest_of unit ≤ 2000000
    → AllByRecursion (IsInRangeOf unit) vs → sum (numbers vs) ≤ 2000000 * length vs
by_recursion unit [] small h = omega arith
by_recursion unit (value.Number n ∷ vs) small h = let e =
    sum-number n vs in omega (arith, by_recursion unit vs small h.1, h.0, small, e)
by_recursion unit (value.Dnf ∷ vs) small h = omega (arith, by_recursion unit vs small h.1)
by_recursion unit (value.Dns ∷ vs) small h = omega (arith, by_recursion unit vs small h.1)

-- what is averaged is small
small_unit : (unit : Measure) (format : Format) → IsFormatOf unit format
    → has_average format ≡ true → greatest_of unit ≤ 2000000
small_unit Time format is h = omega arith
small_unit Moves format is h = omega arith
small_unit Multi format is h = cc

-- the sum of few values that are averaged is small
pub sum-numbers : (unit : Measure) (format : Format) (vs : List Value) → IsFormatOf unit format
    → has_average format ≡ true → All (IsInRangeOf unit) vs → sum (numbers vs) ≤ 2000000 * length vs
sum-numbers unit format vs is h all =
    by_recursion unit vs (small_unit unit format is h)
    (recursion_from_All (IsInRangeOf unit) vs all)
