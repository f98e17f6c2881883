-- What holds of each item of a list.
use Rattle.std.proofs.Common.{◌≡◌, ℕ, zero, suc, ◌⊎◌, inl, inr, Bool, true, false, List, [], ◌∷◌}
use Rattle.std.proofs.Common.{◌++◌, take, drop, Some, None, refl, arith, cond, subst}
use Rattle.std.specs.{Prelude.Contains, Prelude.nat_eq, List.AllByRecursion, Map.lookup}
use Rattle.std.proofs.lemmas.Bool.Decides.{nat_tests}

module _ {X : Type 0} where
  pub all_append : (P : X → Type 0) (xs ys : List X) → AllByRecursion P xs → AllByRecursion P ys
      → AllByRecursion P (xs ++ ys)
  all_append P [] ys a b = b
  all_append P (x ∷ xs) ys a b = (a.0, all_append P xs ys a.1 b)

  pub all_weaker : (P Q : X → Type 0) → ((x : X) → P x → Q x) → (xs : List X)
      → AllByRecursion P xs → AllByRecursion Q xs
  all_weaker P Q more [] a = tt
  all_weaker P Q more (x ∷ xs) a = (more x a.0, all_weaker P Q more xs a.1)

  pub all_take : (P : X → Type 0) (n : ℕ) (xs : List X) → AllByRecursion P xs
      → AllByRecursion P (take n xs)
  all_take P zero xs a = tt
  all_take P (suc n) [] a = tt
  all_take P (suc n) (x ∷ xs) a = (a.0, all_take P n xs a.1)

  pub all_drop : (P : X → Type 0) (n : ℕ) (xs : List X) → AllByRecursion P xs
      → AllByRecursion P (drop n xs)
  all_drop P zero xs a = a
  all_drop P (suc n) [] a = tt
  all_drop P (suc n) (x ∷ xs) a = all_drop P n xs a.1

  pub all_contains : (P : X → Type 0) (xs : List X) (x : X) → AllByRecursion P xs → Contains xs x
      → P x
  all_contains P [] x a (k, less, is) = absurd (omega (arith, less))
  all_contains P (y ∷ xs) x a (zero, less, is) = subst P is a.0
  all_contains P (y ∷ xs) x a (suc k, less, is) =
      all_contains P xs x a.1 (k, omega (arith, less), is)

  pub contains_cases : (y : X) (xs : List X) (x : X) → Contains (y ∷ xs) x → (y ≡ x) ⊎ Contains xs x
  contains_cases y xs x (zero, less, is) = inl is
  contains_cases y xs x (suc k, less, is) = inr (k, omega (arith, less), is)

  pub contains_next : (y : X) (xs : List X) (x : X) → Contains xs x → Contains (y ∷ xs) x
  contains_next y xs x (k, less, is) = (suc k, omega (arith, less), is)

-- ---- the items of ids

module _ {V : Type 0} where
  pub found_front : (id : ℕ) (xs ys : List (ℕ × V)) (v : V) → lookup (nat_eq id) xs ≡ Some v
      → lookup (nat_eq id) (xs ++ ys) ≡ Some v
  found_front id [] ys v h = absurd cc
  found_front id (x ∷ xs) ys v h = go (nat_eq id x.0) h (found_front id xs ys v)
    where
      go : (b : Bool) → cond b (Some x.1) (lookup (nat_eq id) xs) ≡ Some v
          → (lookup (nat_eq id) xs ≡ Some v → lookup (nat_eq id) (xs ++ ys) ≡ Some v)
          → cond b (Some x.1) (lookup (nat_eq id) (xs ++ ys)) ≡ Some v
      go true e rest = e
      go false e rest = rest e

  pub found_last : (id : ℕ) (xs : List (ℕ × V)) (v : V) → lookup (nat_eq id) xs ≡ None
      → lookup (nat_eq id) (xs ++ (id, v) ∷ []) ≡ Some v
  found_last id [] v h =
      let same : nat_eq id id ≡ true = grind (arith, nat_tests) in rw same refl
  found_last id (x ∷ xs) v h = go (nat_eq id x.0) h (found_last id xs v)
    where
      go : (b : Bool) → cond b (Some x.1) (lookup (nat_eq id) xs) ≡ None
          → (lookup (nat_eq id) xs ≡ None → lookup (nat_eq id) (xs ++ (id, v) ∷ []) ≡ Some v)
          → cond b (Some x.1) (lookup (nat_eq id) (xs ++ (id, v) ∷ [])) ≡ Some v
      go true e rest = absurd cc
      go false e rest = rest e

  -- what is found under an id is one of the list
  pub found_holds : (P : ℕ × V → Type 0) (id : ℕ) (xs : List (ℕ × V)) (v : V)
      → AllByRecursion P xs → lookup (nat_eq id) xs ≡ Some v → P (id, v)
  found_holds P id [] v a h = absurd cc
  found_holds P id (x ∷ xs) v a h = go (nat_eq id x.0) refl h (found_holds P id xs v a.1)
    where
      go : (b : Bool) → nat_eq id x.0 ≡ b → cond b (Some x.1) (lookup (nat_eq id) xs) ≡ Some v
          → (lookup (nat_eq id) xs ≡ Some v → P (id, v)) → P (id, v)
      go true is e rest =
          let one : x.0 ≡ id = grind (arith, nat_tests) in
          let other : x.1 ≡ v = cc in
          let pair : x ≡ (id, v) = λ k. (one k, other k) in
          subst P pair a.0
      go false is e rest = rest e
