-- Bytes taken one by one: the line that has begun, and how many lines and bytes there were.
use Rattle.std.proofs.Common.{◌≡◌, ℕ, ◌+◌, Bool, true, false, cond, ◌==◌, ◌&&◌, ◌||◌, nat_lt}
use Rattle.std.proofs.Common.{if◌then◌else◌, List, [], ◌∷◌, ◌++◌, length, fold, refl, arith}
use Rattle.std.proofs.lemmas.List.Sums.{fold-append}

-- what the bytes so far came to
pub record Progress : Type 0 where
  pub line : List ℕ
  pub lines : ℕ
  pub bytes : ℕ

abbrev pub start : Progress
start = record { line = []; lines = 0; bytes = 0 }

-- one more byte is within the limits
abbrev pub has_room : Progress → ℕ → Bool
has_room p b =
    nat_lt p.bytes 39387136 && nat_lt p.lines 65536 && (b == 10 || nat_lt (length p.line) 10000)

-- the line that has begun is whole
unfoldable pub after_line : Progress → Progress
after_line p = record { line = []; lines = p.lines + 1; bytes = p.bytes }

abbrev pub counted : Progress → Progress
counted p = record { line = p.line; lines = p.lines; bytes = p.bytes + 1 }

abbrev pub with_byte : Progress → ℕ → Progress
with_byte p b = record { line = p.line ++ b ∷ []; lines = p.lines; bytes = p.bytes }

unfoldable pub next : Progress → ℕ → Progress
next p b = if b == 10 then after_line (counted p) else with_byte (counted p) b

-- what bytes come to, and whether they are within the limits
abbrev pub after_bytes : Progress → List ℕ → Progress
after_bytes p bs = fold next p bs

abbrev pub all_fit : Progress → List ℕ → Bool
all_fit p [] = true
all_fit p (b ∷ bs) = has_room p b && all_fit (next p b) bs

pub all_fit-append : (p : Progress) (xs ys : List ℕ)
    → all_fit p (xs ++ ys) ≡ (all_fit p xs && all_fit (after_bytes p xs) ys)
all_fit-append p [] ys = refl
all_fit-append p (x ∷ xs) ys =
    rw (all_fit-append (next p x) xs ys)
    (and_assoc (has_room p x) (all_fit (next p x) xs) (all_fit (after_bytes (next p x) xs) ys))
  where
    and_assoc : (a b c : Bool) → (a && (b && c)) ≡ ((a && b) && c)
    and_assoc true b c = refl
    and_assoc false b c = refl

next_bytes : (p : Progress) (b : ℕ) → (next p b).bytes ≡ p.bytes + 1
unfolding next after_line
next_bytes p b = step (b == 10)
  where
    step : (t : Bool)
        → (cond t (after_line (counted p)) (with_byte (counted p) b)).bytes ≡ p.bytes + 1
    step true = refl
    step false = refl

-- each byte is counted
pub count_bytes : (p : Progress) (bs : List ℕ) → (after_bytes p bs).bytes ≡ p.bytes + length bs
count_bytes p [] = omega arith
count_bytes p (b ∷ bs) = omega (arith, count_bytes (next p b) bs, next_bytes p b)
