-- Whoever has each number, one number after the other, are the persons in the order of the numbers.
use Rattle.std.proofs.Common.{◌≡◌, refl, sym, ap, ◌∙◌, ℕ, zero, suc, ◌+◌, ◌<◌, ◌≤◌, arith, Bool}
use Rattle.std.proofs.Common.{true, false, ◌==◌, cond, List, [], ◌∷◌, ◌++◌, flat_map, find, Option}
use Rattle.std.proofs.Common.{Some, None, nat_lt, eqb-true}
use Rattle.std.{specs.Prelude.option_to_list, proofs.lemmas.Bool.Decides.nat_tests}
use Rattle.std.specs.List.{list_any, range_with_len, AllByRecursion}
use Rattle.wcif.{specs.Commands.numbers_to, proofs.Found.found_none, proofs.Found.found_passes}
use Rattle.import_laws.specs.{Competitions.Person, Held.AreApart, Held.same_number, Held.IsWithin}
use Rattle.import_laws.specs.SetUp.{number_of, put_in, by_number}

-- whoever has the number
abbrev pub who_at : List Person → ℕ → List Person
who_at qs n = option_to_list (find (λ q. n == number_of q) qs)

numbers_are : (last : ℕ) → numbers_to last ≡ range_with_len 1 last
unfolding numbers_to
numbers_are last = refl

-- after a person's number, he is not met
met_before : (q : Person) (qs : List Person) (a n : ℕ) → number_of q < a
    → flat_map (who_at (q ∷ qs)) (range_with_len a n) ≡ flat_map (who_at qs) (range_with_len a n)
met_before q qs a zero h = refl
met_before q qs a (suc n) h = rw (other, met_before q qs (a + 1) n (omega (arith, h))) refl
  where
    other : (a == number_of q) ≡ false
    other = grind (arith, nat_tests)

-- a person whose number is below all others comes first
put_first : (q : Person) (qs : List Person) (a n : ℕ) → number_of q < a
    → put_in q (flat_map (who_at qs) (range_with_len a n))
    ≡ q ∷ flat_map (who_at qs) (range_with_len a n)
put_first q qs a zero h = refl
put_first q qs a (suc n) h =
    step (find (λ r. a == number_of r) qs) refl (put_first q qs (a + 1) n (omega (arith, h)))
  where
    step : (o : Option Person) → find (λ r. a == number_of r) qs ≡ o
        → put_in q (flat_map (who_at qs) (range_with_len (a + 1) n))
        ≡ q ∷ flat_map (who_at qs) (range_with_len (a + 1) n)
        → put_in q (option_to_list o ++ flat_map (who_at qs) (range_with_len (a + 1) n))
        ≡ q ∷ option_to_list o ++ flat_map (who_at qs) (range_with_len (a + 1) n)
    step None is later = later
    step (Some r) is later =
        let same : a ≡ number_of r =
        eqb-true a (number_of r) (found_passes (λ s. a == number_of s) qs r is) in
        let less : nat_lt (number_of q) (number_of r) ≡ true = grind (arith, nat_tests) in
        rw less refl

-- one more person is put in by the number
inserted : (q : Person) (qs : List Person) → list_any (same_number q) qs ≡ false → (a n : ℕ)
    → a ≤ number_of q → number_of q < a + n → flat_map (who_at (q ∷ qs)) (range_with_len a n)
    ≡ put_in q (flat_map (who_at qs) (range_with_len a n))
inserted q qs own a zero low high = absurd (omega (arith, low, high))
inserted q qs own a (suc n) low high =
    step (a == number_of q) refl
    (λ less. inserted q qs own (a + 1) n (omega (arith, less)) (omega (arith, high)))
  where
    rest : List Person
    rest = flat_map (who_at qs) (range_with_len (a + 1) n)

    all : List Person
    all = flat_map (who_at (q ∷ qs)) (range_with_len (a + 1) n)

    here : (o : Option Person) → find (λ r. a == number_of r) qs ≡ o → a < number_of q
        → option_to_list o ++ put_in q rest ≡ put_in q (option_to_list o ++ rest)
    here None is less = refl
    here (Some r) is less =
        let same : a ≡ number_of r =
        eqb-true a (number_of r) (found_passes (λ s. a == number_of s) qs r is) in
        let more : nat_lt (number_of q) (number_of r) ≡ false = grind (arith, nat_tests) in
        sym (ap (λ b. cond b (q ∷ r ∷ rest) (r ∷ put_in q rest)) more)

    step : (b : Bool) → (a == number_of q) ≡ b → (a < number_of q → all ≡ put_in q rest)
        → option_to_list (cond b (Some q) (find (λ r. a == number_of r) qs)) ++ all
        ≡ put_in q (who_at qs a ++ rest)
    step true is later =
        let same : a ≡ number_of q = eqb-true a (number_of q) is in
        let none : find (λ r. a == number_of r) qs ≡ None = found_none (λ r. a == number_of r) qs
        (ap (λ k. list_any (λ r. k == number_of r) qs) same ∙ own) in
        rw (met_before q qs (a + 1) n (omega (arith, same)))
        (sym (put_first q qs (a + 1) n (omega (arith, same))) ∙ rw none refl)
    step false is later =
        let less : a < number_of q = grind (arith, nat_tests) in
        rw (later less) (here (find (λ r. a == number_of r) qs) refl less)

nobody : (a n : ℕ) → flat_map (who_at []) (range_with_len a n) ≡ []
nobody a zero = refl
nobody a (suc n) = nobody (a + 1) n

abbrev HasNumber : ℕ → Person → Type 0
HasNumber last p = IsWithin 1 last (number_of p)

in_range : (last : ℕ) (qs : List Person) → AreApart same_number qs
    → AllByRecursion (HasNumber last) qs
    → flat_map (who_at qs) (range_with_len 1 last) ≡ by_number qs
in_range last [] apart are = nobody 1 last
in_range last (q ∷ qs) apart are =
    let high = are.0.1 in
    inserted q qs apart.0 1 last are.0.0 (omega (arith, high))
    ∙ ap (put_in q) (in_range last qs apart.1 are.1)

pub in_order : (last : ℕ) (qs : List Person) → AreApart same_number qs
    → AllByRecursion (HasNumber last) qs → flat_map (who_at qs) (numbers_to last) ≡ by_number qs
in_order last qs apart are =
    ap (flat_map (who_at qs)) (numbers_are last) ∙ in_range last qs apart are

same_from : {A : Type 0} (f g : ℕ → List A) → ((n : ℕ) → 1 ≤ n → f n ≡ g n) → (a n : ℕ) → 1 ≤ a
    → flat_map f (range_with_len a n) ≡ flat_map g (range_with_len a n)
same_from f g same a zero h = refl
same_from f g same a (suc n) h =
    rw (same a h, same_from f g same (a + 1) n (omega (arith, h))) refl

-- what is the same of each number
pub same_each : {A : Type 0} (f g : ℕ → List A) → ((n : ℕ) → 1 ≤ n → f n ≡ g n) → (last : ℕ)
    → flat_map f (numbers_to last) ≡ flat_map g (numbers_to last)
same_each f g same last =
    ap (flat_map f) (numbers_are last) ∙ same_from f g same 1 last (omega arith)
    ∙ ap (flat_map g) (sym (numbers_are last))
