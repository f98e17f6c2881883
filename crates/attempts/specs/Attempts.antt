-- What an attempt counts as: results as in the WCA Regulations, article 9f, penalties of two
-- seconds as in article 10e and time limits as in article A1a. The ranges of what may be entered
-- are the project's own.
use Rattle.std.specs.Prelude.{◌≡◌, ℕ, ◌+◌, ◌-◌, ◌*◌, ◌/◌, ◌≤◌, Bool, false, ◌&&◌, nat_le}
use Rattle.std.specs.Prelude.{if◌then◌else◌, Option, None, Some}
use Rattle.attempts.specs.declared.{Fm.Fm, Outcome.Outcome, Unit.Unit as Measure, Value.Value}
use Rattle.attempts.specs.declared.Fm.TheVariants as fm
use Rattle.attempts.specs.declared.Outcome.TheVariants as outcome
use Rattle.attempts.specs.declared.Unit.TheVariants as measure
use Rattle.attempts.specs.declared.Value.TheVariants as value

-- hundredths up to ten minutes as they are, and longer ones to the nearest second, a half up
-- (border and rounding are the project's own)
abbrev pub rounded : ℕ → ℕ
rounded v = if nat_le v 60000 then v else (v + 50) / 100 * 100

-- a time limit is set, and the time is not below it
abbrev pub reaches : Option ℕ → ℕ → Bool
reaches None time = false
reaches (Some limit) time = nat_le limit time

-- the value of a solution of fewest moves is its result
abbrev pub solution_value : Fm → Value
solution_value (fm.Moves n) = value.Number n
solution_value fm.Dnf = value.Dnf

-- Multi-blind: this many cubes solved of those attempted, in this many seconds (WCA Regulations,
-- article 9f)

abbrev pub unsolved : ℕ → ℕ → ℕ
unsolved solved attempted = attempted - solved

-- a point for each solved cube, less one for each unsolved one
abbrev pub points : ℕ → ℕ → ℕ
points solved attempted = solved - unsolved solved attempted

-- two cubes or more are solved, and no fewer than are unsolved
abbrev pub is_multi_finished : ℕ → ℕ → Bool
is_multi_finished solved attempted = nat_le 2 solved && nat_le (unsolved solved attempted) solved

-- a result as a number, which is less where there are more points, then where the time is shorter,
-- then where fewer are unsolved (that order is article 9f's, the number is the project's own)
abbrev pub multi_number : ℕ → ℕ → ℕ → ℕ
multi_number solved attempted seconds =
    (99 - points solved attempted) * 10000000 + 100 * seconds + unsolved solved attempted

abbrev pub multi_value : ℕ → ℕ → ℕ → Value
multi_value solved attempted seconds =
    if is_multi_finished solved attempted then value.Number (multi_number solved attempted seconds)
    else value.Dnf

-- the value of an attempt under a limit: the limit is for the measured time alone, and each penalty
-- adds two seconds
abbrev pub value_of : Option ℕ → Outcome → Value
value_of limit (outcome.Time time penalties) =
    if reaches limit time then value.Dnf else value.Number (rounded (time + 200 * penalties))
value_of limit (outcome.Solution result) = solution_value result
value_of limit (outcome.Multi solved attempted seconds) = multi_value solved attempted seconds
value_of limit outcome.Dnf = value.Dnf
value_of limit outcome.Dns = value.Dns

-- a result of fewest moves is at most 80 moves
abbrev pub IsResult : Fm → Type 0
IsResult (fm.Moves n) = n ≤ 80
IsResult fm.Dnf = Unit {0}

-- what a judge may enter
abbrev pub IsOutcome : Outcome → Type 0
IsOutcome (outcome.Time time penalties) = (1 ≤ time) × (time ≤ 999999) × (penalties ≤ 9)
IsOutcome (outcome.Solution result) = IsResult result
IsOutcome (outcome.Multi solved attempted seconds) =
    (2 ≤ attempted) × (attempted ≤ 99) × (solved ≤ attempted) × (1 ≤ seconds) × (seconds ≤ 5999)
IsOutcome outcome.Dnf = Unit {0}
IsOutcome outcome.Dns = Unit {0}

-- a number of a time or of moves is in its range
abbrev pub IsInRange : Value → Type 0
IsInRange (value.Number n) = n ≤ 2000000
IsInRange value.Dnf = Unit {0}
IsInRange value.Dns = Unit {0}

-- the greatest number of a unit
abbrev pub greatest_of : Measure → ℕ
greatest_of measure.Time = 2000000
greatest_of measure.Moves = 2000000
greatest_of measure.Multi = 990599949

-- a number is in the range of its unit
abbrev pub IsInRangeOf : Measure → Value → Type 0
IsInRangeOf unit (value.Number n) = n ≤ greatest_of unit
IsInRangeOf unit value.Dnf = Unit {0}
IsInRangeOf unit value.Dns = Unit {0}

-- results of multi-blind are of its unit alone
abbrev pub IsOutcomeOf : Measure → Outcome → Type 0
IsOutcomeOf unit (outcome.Multi solved attempted seconds) = unit ≡ measure.Multi
IsOutcomeOf unit _ = Unit {0}
