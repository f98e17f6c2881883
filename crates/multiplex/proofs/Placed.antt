-- A place in a list, and what is kept of all.
use Rattle.std.proofs.Common.{◌≡◌, refl, List, ◌++◌, length, take, drop, get_or, zero, false, arith}
use Rattle.std.proofs.Common.{sym, ap, ◌∙◌, ℕ, ◌+◌, ◌<◌, [], ◌∷◌, suc, None, Some, Bool, true, cond}
use Rattle.std.proofs.lemmas.Iterator.Adapters.{position_from-zero}
use Rattle.std.specs.{List.AllByRecursion, List.position_from, Prelude.position}

-- the list about its i-th element
pub record Split {X : Type 0} (xs : List X) (i : ℕ) (x : X) : Type 0 where
  pub whole : xs ≡ take i xs ++ x ∷ drop (suc i) xs
  pub at : (d : X) → get_or xs i d ≡ x
  pub front : length (take i xs) ≡ i

pub split_at : {X : Type 0} (xs : List X) (i : ℕ) → i < length xs → (x : X) × Split xs i x
split_at [] i within = absurd (omega (arith, within))
split_at (x ∷ xs) zero within = (x, record { whole = refl; at = λ d. refl; front = refl })
split_at (x ∷ xs) (suc i) within =
    let later = split_at xs i (omega (arith, within)) in (
      later.0,
      record {
        whole = ap (λ z. x ∷ z) later.1.whole;
        at = later.1.at;
        front = ap suc later.1.front;
      },
    )

pub none_passes : {X : Type 0} (p : X → Bool) (i : ℕ) (xs : List X) → position_from p i xs ≡ None
    → AllByRecursion (λ x. p x ≡ false) xs
none_passes p i [] h = tt
none_passes {X} p i (x ∷ xs) h =
    let first = go (p x) h in (first.0, none_passes p (i + 1) xs first.1)
  where
    go : (b : Bool) → cond b (Some i) (position_from p (i + 1) xs) ≡ None
        → (b ≡ false) × (position_from p (i + 1) xs ≡ None)
    go true none = absurd cc
    go false none = (refl, none)

pub nowhere : {X : Type 0} (p : X → Bool) (xs : List X) → position p xs ≡ None
    → AllByRecursion (λ x. p x ≡ false) xs
nowhere p xs h = none_passes p 0 xs (sym (position_from-zero p xs) ∙ h)

pub all_as : {X : Type 0} (P Q : X → Type 0) (xs : List X) → ((x : X) → P x → Q x)
    → AllByRecursion P xs → AllByRecursion Q xs
all_as P Q [] f h = tt
all_as P Q (x ∷ xs) f h = (f x h.0, all_as P Q xs f h.1)

pub all_both : {X : Type 0} (P : X → Type 0) (xs ys : List X) → AllByRecursion P xs
    → AllByRecursion P ys → AllByRecursion P (xs ++ ys)
all_both P [] ys h k = k
all_both P (x ∷ xs) ys h k = (h.0, all_both P xs ys h.1 k)

pub all_front : {X : Type 0} (P : X → Type 0) (xs ys : List X) → AllByRecursion P (xs ++ ys)
    → AllByRecursion P xs
all_front P [] ys h = tt
all_front P (x ∷ xs) ys h = (h.0, all_front P xs ys h.1)

pub all_back : {X : Type 0} (P : X → Type 0) (xs ys : List X) → AllByRecursion P (xs ++ ys)
    → AllByRecursion P ys
all_back P [] ys h = h
all_back P (x ∷ xs) ys h = all_back P xs ys h.1

pub split_as : {X : Type 0} (xs : List X) (i : ℕ) (x y : X)
    → xs ≡ take i xs ++ x ∷ drop (suc i) xs → y ≡ x → xs ≡ take i xs ++ y ∷ drop (suc i) xs
split_as xs i x y whole same = whole ∙ ap (λ z. take i xs ++ z ∷ drop (suc i) xs) (sym same)

pub left_as : {X : Type 0} (xs : List X) (i : ℕ) (ys : List X)
    → ys ≡ take i xs ++ drop (i + 1) xs → ys ≡ take i xs ++ drop (suc i) xs
left_as xs i ys is =
    let next : i + 1 ≡ suc i = omega arith in is ∙ ap (λ n. take i xs ++ drop n xs) next
