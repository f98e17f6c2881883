-- Where an item is first, as a list grows, and what is there.
use Rattle.std.proofs.Common.{◌≡◌, ◌≤◌, ◌<◌, ◌+◌, ◌++◌, ◌∷◌, ℕ, zero, suc, List, [], length, map}
use Rattle.std.proofs.Common.{get_or, take, take-suc, cond, refl, ap, sym, ◌∙◌, arith, add-one}
use Rattle.std.proofs.Common.{Option, None, Some, Bool, true, false, nat_eq, nat_lt, eqb}
use Rattle.std.specs.{Prelude.find, Prelude.option_map, Prelude.slice_get, List.position}
use Rattle.std.specs.{List.position_or_len, Option.option_and_then, Option.option_or}
use Rattle.std.proofs.lemmas.List.Folds.{find_at, position_or_len_push}
use Rattle.std.proofs.lemmas.{List.Sums.prefix_len-le-length, Option.slice_get_past, Option.slice_get-map}
use Rattle.std.proofs.lemmas.{Bool.ltb-false, List.length-append}

-- by the places alone
at_end : (b : Bool) (k n m : ℕ) → k ≤ n
    → m ≡ cond (eqb k n) (n + cond b 0 1) k
    → cond (nat_lt m (n + 1)) (Some m) None
    ≡ option_or (cond (nat_lt k n) (Some k) None) (cond b (Some n) None)
at_end true k n m few is = grind arith
at_end false k n m few is = grind arith

-- with one more item at the end
pub pushed : {X : Type 0} (p : X → Bool) (xs : List X) (x : X)
    → position p (xs ++ x ∷ []) ≡ option_or (position p xs) (cond (p x) (Some (length xs)) None)
pushed p xs x =
    ap (λ (n : ℕ). cond (nat_lt (position_or_len p (xs ++ x ∷ [])) n)
    (Some (position_or_len p (xs ++ x ∷ []))) None) (length-append xs (x ∷ []))
    ∙ at_end (p x) (position_or_len p xs) (length xs) (position_or_len p (xs ++ x ∷ []))
    (prefix_len-le-length _ xs) (position_or_len_push p xs x)

at_place : {X : Type 0} (xs : List X) (k : ℕ)
    → option_and_then (slice_get xs) (cond (nat_lt k (length xs)) (Some k) None) ≡ slice_get xs k
at_place xs k = by (nat_lt k (length xs)) refl
  where
    by : (b : Bool) → b ≡ nat_lt k (length xs)
        → option_and_then (slice_get xs) (cond b (Some k) None) ≡ slice_get xs k
    by true is = refl
    by false is = sym (slice_get_past xs k (ltb-false k (length xs) (sym is)))

-- what is at the first place is found
pub found_there : {X : Type 0} (p : X → Bool) (xs : List X)
    → option_and_then (slice_get xs) (position p xs) ≡ find p xs
found_there p xs = at_place xs (position_or_len p xs) ∙ sym (find_at p xs)

pub found_by : {X : Type 0} (p : X → Bool) (xs : List X) (o : Option ℕ) → o ≡ position p xs
    → option_and_then (slice_get xs) o ≡ find p xs
found_by p xs o is = ap (option_and_then (slice_get xs)) is ∙ found_there p xs

-- the same, of what two lists have alike
pub alike_at : {X Y Z : Type 0} (f : X → Z) (g : Y → Z) (xs : List X) (ys : List Y)
    (p : Y → Bool) (o : Option ℕ)
    → map f xs ≡ map g ys → o ≡ position p ys
    → option_and_then (λ i. option_map f (slice_get xs i)) o ≡ option_map g (find p ys)
alike_at f g xs ys p None alike is = ap (option_map g) (found_by p ys None is)
alike_at f g xs ys p (Some i) alike is =
    sym (slice_get-map f xs i) ∙ ap (λ zs. slice_get zs i) alike ∙ slice_get-map g ys i
    ∙ ap (option_map g) (found_by p ys (Some i) is)
