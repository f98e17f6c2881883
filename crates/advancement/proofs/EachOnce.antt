-- What is left of a list in which nothing comes twice.
use Rattle.std.proofs.Common.{◌≡◌, ℕ, ◌≤◌, Bool, true, false, cond, List, [], ◌∷◌, filter, length}
use Rattle.std.proofs.Common.{nat_eq, Result, Ok, Err, IfOk, arith}
use Rattle.std.specs.List.{IsDistinct, AllByRecursion}
use Rattle.std.proofs.lemmas.List.Sums.{length-filter, count_by-le-length}

kept_or : {X : Type 0} (P : X → Type 0) (b : Bool) (x : X) (xs : List X) → P x → AllByRecursion P xs
    → AllByRecursion P (cond b (x ∷ xs) xs)
kept_or P true x xs here rest = (here, rest)
kept_or P false x xs here rest = rest

-- what holds of each holds of those that are kept
kept_by : {X : Type 0} (P : X → Type 0) (p : X → Bool) (xs : List X) → AllByRecursion P xs
    → AllByRecursion P (filter p xs)
kept_by P p [] h = h
kept_by P p (x ∷ xs) h = kept_or P (p x) x (filter p xs) h.0 (kept_by P p xs h.1)

distinct_or : (b : Bool) (n : ℕ) (ns : List ℕ) → AllByRecursion (λ m. nat_eq n m ≡ false) ns
    → IsDistinct nat_eq ns → IsDistinct nat_eq (cond b (n ∷ ns) ns)
unfolding IsDistinct
distinct_or true n ns here rest = (here, rest)
distinct_or false n ns here rest = rest

pub distinct_filter : (p : ℕ → Bool) (ns : List ℕ) → IsDistinct nat_eq ns
    → IsDistinct nat_eq (filter p ns)
unfolding IsDistinct
distinct_filter p [] h = h
distinct_filter p (n ∷ ns) h =
    distinct_or (p n) n (filter p ns) (kept_by (λ m. nat_eq n m ≡ false) p ns h.0)
    (distinct_filter p ns h.1)

pub few_filter : (p : ℕ → Bool) (ns : List ℕ) → length ns ≤ 999 → length (filter p ns) ≤ 999
few_filter p ns h = omega (arith, length-filter p ns, count_by-le-length p ns)

-- what holds of a list holds of the one that is answered
pub holds_at : {T E : Type 0} {P Q : T → Type 0} (r : Result T E) → IfOk r P → ((x : T) → P x → Q x)
    → IfOk r Q
holds_at (Ok x) h f = f x h
holds_at (Err e) h f = tt
