-- What the place of the first item that passes a test says.
use Rattle.std.proofs.Common.{◌≡◌, ℕ, ◌<◌, ◌≤◌, zero, suc, Bool, true, false, cond, nat_lt, List}
use Rattle.std.proofs.Common.{[], ◌∷◌, length, find, position, slice_get, Option, Some, None}
use Rattle.std.proofs.Common.{MatchOption, refl, sym, ap, ◌∙◌, arith}
use Rattle.std.specs.List.{position_or_len}
use Rattle.std.proofs.lemmas.{Option.slice_get_past, List.Folds.find_at, Bool.Decides.nat_tests}

get_some : {X : Type 0} (xs : List X) (k : ℕ) → k < length xs → (x : X) × (slice_get xs k ≡ Some x)
get_some [] k h = absurd (omega arith)
get_some (x ∷ xs) zero h = (x, refl)
get_some (x ∷ xs) (suc k) h = get_some xs k (omega arith)

found_here : {X : Type 0} (p : X → Bool) (y x : X) (rest : Option X) (b : Bool) → p y ≡ b
    → (rest ≡ Some x → p x ≡ true) → cond b (Some y) rest ≡ Some x → p x ≡ true
found_here p y x rest true is later f = let same : y ≡ x = cc in ap p (sym same) ∙ is
found_here p y x rest false is later f = later f

pub find_passes : {X : Type 0} (p : X → Bool) (xs : List X) (x : X) → find p xs ≡ Some x → p x ≡ true
find_passes p [] x e = cc
find_passes p (y ∷ ys) x e = found_here p y x (find p ys) (p y) refl (find_passes p ys x) e

-- the item at the place is the first that passes
pub record IsFound {X : Type 0} (p : X → Bool) (xs : List X) (i : ℕ) : Type 0 where
  pub item : X
  pub at : slice_get xs i ≡ Some item
  pub passes : p item ≡ true
  pub found : find p xs ≡ Some item
  pub first : i ≡ position_or_len p xs

at_slot : {X : Type 0} (p : X → Bool) (xs : List X) (k : ℕ) (b : Bool) → nat_lt k (length xs) ≡ b
    → find p xs ≡ slice_get xs k → k ≡ position_or_len p xs
    → MatchOption (cond b (Some k) None) (find p xs ≡ None) (IsFound p xs)
at_slot p xs k true e f first =
    let below : k < length xs = grind (arith, nat_tests) in
    let got = get_some xs k below in
    record {
      item = got.0;
      at = got.1;
      passes = find_passes p xs got.0 (f ∙ got.1);
      found = f
          ∙ got.1;
      first = first;
    }
at_slot p xs k false e f first =
    let above : length xs ≤ k = grind (arith, nat_tests) in f ∙ slice_get_past xs k above

-- what a place, or none, says of the items
pub found_at : {X : Type 0} (p : X → Bool) (xs : List X)
    → MatchOption (position p xs) (find p xs ≡ None) (IsFound p xs)
found_at p xs =
    at_slot p xs (position_or_len p xs) (nat_lt (position_or_len p xs) (length xs)) refl
    (find_at p xs) refl
