-- The WCA's number of a result of multi-blind (the README of the WCA's results export, and the
-- AttemptResult of its Competition Interchange Format): ten digits 0DDTTTTTMM. DD is 99 less the
-- difference of the cubes solved and those not solved, TTTTT the time in seconds, MM the cubes not
-- solved.
use Rattle.std.specs.Prelude.{◌≡◌, ℕ, ◌+◌, ◌-◌, ◌*◌, ◌/◌, ◌%◌, ◌^◌, List, [], ◌∷◌, ◌++◌, take, drop}
use Rattle.std.specs.Prelude.{length, if◌then◌else◌, Option, zero, suc, true}
use Rattle.std.specs.Str.Parse.{digits_value}
use Rattle.attempts.specs.{declared.Outcome.Outcome, MultiLaws.Multi}
use Rattle.attempts.specs.Attempts.{value_of, IsOutcome, is_multi_finished}
use Rattle.attempts.specs.declared.Outcome.TheVariants as outcome
use Rattle.attempts.specs.declared.Value.TheVariants as value

-- this many of the last decimal digits of a number
abbrev pub last_digits : ℕ → ℕ → List ℕ
last_digits zero n = []
last_digits (suc k) n = (48 + n / 10 ^ k % 10) ∷ last_digits k n

-- the cubes that were not solved, and the difference
abbrev pub missed : Multi → ℕ
missed r = r.attempted - r.solved

abbrev pub difference : Multi → ℕ
difference r = r.solved - missed r

-- the ten digits of a result
abbrev pub ten_digits : Multi → List ℕ
ten_digits r =
    last_digits 1 0 ++ last_digits 2 (99 - difference r) ++ last_digits 5 r.seconds
    ++ last_digits 2 (missed r)

abbrev pub outcome_of : Multi → Outcome
outcome_of r = outcome.Multi r.solved r.attempted r.seconds

-- every result of edition 2 counts as the number of its ten digits where it is no DNF
abbrev pub NumbersAreTheWcas : Type 0
NumbersAreTheWcas =
    (r : Multi) (limit : Option ℕ) → IsOutcome (outcome_of r) → value_of limit (outcome_of r)
    ≡ (if is_multi_finished r.solved r.attempted
    then value.Number (digits_value 10 (ten_digits r)) else value.Dnf)

-- what the WCA reads of ten digits: the difference is 99 less DD, the cubes solved are the
-- difference and MM, those attempted are the solved ones and MM
abbrev pub field : ℕ → ℕ → List ℕ → ℕ
field from size digits = digits_value 10 (take size (drop from digits))

pub record ReadsAs (digits : List ℕ) (r : Multi) : Type 0 where
  pub ten : length digits ≡ 10
  pub solved : (99 - field 1 2 digits) + field 8 2 digits ≡ r.solved
  pub attempted : (99 - field 1 2 digits) + 2 * field 8 2 digits ≡ r.attempted
  pub seconds : field 3 5 digits ≡ r.seconds

-- the ten digits of a result that is no DNF are read as the result
abbrev pub DigitsReadBack : Type 0
DigitsReadBack =
    (r : Multi) → IsOutcome (outcome_of r) → is_multi_finished r.solved r.attempted ≡ true
    → ReadsAs (ten_digits r) r
