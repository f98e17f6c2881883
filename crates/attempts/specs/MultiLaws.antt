-- What holds of every result of multi-blind: how the numbers are ordered, and what is read back
-- (the project's own).
use Rattle.std.specs.Prelude.{◌≡◌, ◌↔◌, ℕ, ◌/◌, ◌%◌, ◌<◌, Bool, true, ◌==◌, ◌||◌, ◌&&◌, nat_lt}
use Rattle.std.specs.Prelude.{List, [], ◌∷◌, map, Option}
use Rattle.std.specs.{List.slice_split, Str.Parse.digits_value}
use Rattle.attempts.specs.Attempts.{points, unsolved, value_of, IsOutcome}
use Rattle.attempts.specs.Texts.{value_text}
use Rattle.attempts.specs.declared.Outcome.TheVariants as outcome
use Rattle.attempts.specs.declared.Unit.TheVariants as measure
use Rattle.attempts.specs.declared.Value.TheVariants as value

-- this many cubes solved of those attempted, in this many seconds
pub record Multi : Type 0 where
  pub solved : ℕ
  pub attempted : ℕ
  pub seconds : ℕ

abbrev pub points_of : Multi → ℕ
points_of r = points r.solved r.attempted

abbrev pub unsolved_of : Multi → ℕ
unsolved_of r = unsolved r.solved r.attempted

-- more points; or as many, in a shorter time; or as many in the same time, and fewer unsolved (WCA
-- Regulations, article 9f)
abbrev pub is_better : Multi → Multi → Bool
is_better r s =
    nat_lt (points_of s) (points_of r)
    || points_of r == points_of s && (nat_lt r.seconds s.seconds
    || r.seconds == s.seconds && nat_lt (unsolved_of r) (unsolved_of s))

-- a result that a judge may enter, and that counts as this number
abbrev pub CountsAs : Multi → ℕ → Type 0
CountsAs r n =
    IsOutcome (outcome.Multi r.solved r.attempted r.seconds)
    × ((limit : Option ℕ)
    → value_of limit (outcome.Multi r.solved r.attempted r.seconds) ≡ value.Number n)

-- of two results that count, the better one has the lesser number
abbrev pub IsOrdered : Type 0
IsOrdered =
    (r s : Multi) (m n : ℕ) → CountsAs r m → CountsAs s n → (m < n) ↔ (is_better r s ≡ true)

-- a slash, a space or a colon
abbrev pub is_mark : ℕ → Bool
is_mark byte = byte == 47 || byte == 32 || byte == 58

-- the numbers of a text, between its marks
abbrev pub numbers_in : List ℕ → List ℕ
numbers_in text = map (digits_value 10) (slice_split is_mark text)

-- read back from what is printed: the solved and the attempted cubes, minutes and seconds
abbrev pub ReadsBack : Type 0
ReadsBack =
    (r : Multi) (n : ℕ) → CountsAs r n
    → numbers_in (value_text measure.Multi (value.Number n))
    ≡ r.solved ∷ r.attempted ∷ r.seconds / 60 ∷ r.seconds % 60 ∷ []
