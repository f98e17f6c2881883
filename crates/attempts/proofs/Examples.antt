-- Values at the borders, computed from the definition.
use Rattle.std.proofs.Common.{◌≡◌, refl, codes, None, Some}
use Rattle.std.specs.Fmt.{digits}
use Rattle.attempts.specs.{Attempts.value_of, Texts.value_text}
use Rattle.attempts.specs.declared.Fm.TheVariants as fm
use Rattle.attempts.specs.declared.Outcome.TheVariants as outcome
use Rattle.attempts.specs.declared.Unit.TheVariants as measure
use Rattle.attempts.specs.declared.Value.TheVariants as value

below_a_half : value_of (Some 120000) (outcome.Time 60049 0) ≡ value.Number 60000
below_a_half = refl

from_a_half : value_of (Some 120000) (outcome.Time 60050 0) ≡ value.Number 60100
from_a_half = refl

-- the sum of time and penalties is rounded
with_penalty : value_of (Some 60000) (outcome.Time 59900 1) ≡ value.Number 60100
with_penalty = refl

at_the_limit : value_of (Some 60000) (outcome.Time 60000 0) ≡ value.Dnf
at_the_limit = refl

-- the limit is for the measured time alone
penalties_past_the_limit : value_of (Some 60000) (outcome.Time 59999 9) ≡ value.Number 61800
penalties_past_the_limit = refl

-- a solution ignores the limit
solution_under_a_limit : value_of (Some 1) (outcome.Solution (fm.Moves 25)) ≡ value.Number 25
solution_under_a_limit = refl

-- all solved: two points in 8:00
two_of_two : value_of None (outcome.Multi 2 2 480) ≡ value.Number 970048000
two_of_two = refl

two_of_two_text : value_text measure.Multi (value.Number 970048000) ≡ codes "2/2 8:00"
unfolding digits
two_of_two_text = refl

-- nine points either way, and two are unsolved
with_unsolved : value_of None (outcome.Multi 11 13 3500) ≡ value.Number 900350002
with_unsolved = refl

with_unsolved_text : value_text measure.Multi (value.Number 900350002) ≡ codes "11/13 58:20"
unfolding digits
with_unsolved_text = refl

none_unsolved : value_of None (outcome.Multi 9 9 3500) ≡ value.Number 900350000
none_unsolved = refl

-- one solved cube is too few, and so is less than no point
one_solved : value_of None (outcome.Multi 1 2 100) ≡ value.Dnf
one_solved = refl

below_no_point : value_of None (outcome.Multi 2 5 600) ≡ value.Dnf
below_no_point = refl
