-- The numbers from 1 to a last one: commands, a number at a time, and no more numbers are
-- registered for an event than persons.
use Rattle.std.proofs.Common.{◌≡◌, ◌+◌, ℕ, zero, suc, List, [], ◌∷◌, ◌++◌, refl, ap, sym, ◌∙◌}
use Rattle.std.proofs.Common.{append_assoc, arith, add-one, ◌≤◌, ◌<◌, ◌&&◌, ◌||◌, ◌==◌, Bool, true}
use Rattle.std.proofs.Common.{false, cond, Some, subst, nat_le, eqb-true, filter}
use Rattle.wcif.proofs.{Numbered.count_push, Numbered.zero_more, Found.both_left, Found.one_number}
use Rattle.std.proofs.Math.Bool.{and-true, and-false, or-false}
use Rattle.std.specs.{Prelude.flat_map, List.range_with_len, List.list_any, Option.option_to_list}
use Rattle.std.{specs.Prelude.count_by, specs.Prelude.find, proofs.lemmas.Bool.Decides.nat_tests}
use Rattle.std.proofs.lemmas.{Grind.flat_map-append, List.Elements.filter-append}
use Rattle.std.proofs.lemmas.List.{Folds.list_any-append, append-nil, Sums.sum_by-append}
use Rattle.texts.specs.declared.command.Command.{Command}
use Rattle.wcif.specs.{Commands.numbers_to, Events.enters, Laws.is_entrant, Persons.has_number}
use Rattle.serde_json.specs.Data.{Data}
use Rattle.formats.specs.declared.events.Event.{Event}

range_more : (a n : ℕ) → range_with_len a (suc n) ≡ range_with_len a n ++ (a + n) ∷ []
range_more a zero = ap (λ (x : ℕ). x ∷ []) (omega arith)
range_more a (suc n) =
    ap (λ more. a ∷ more)
    (range_more (a + 1) n ∙ ap (λ (x : ℕ). range_with_len (a + 1) n ++ x ∷ []) (omega arith))

pub numbers_none : numbers_to 0 ≡ []
unfolding numbers_to
numbers_none = refl

pub numbers_more : (n : ℕ) → numbers_to (n + 1) ≡ numbers_to n ++ (n + 1) ∷ []
unfolding numbers_to
numbers_more n =
    rw add-one (range_more 1 n ∙ ap (λ (x : ℕ). range_with_len 1 n ++ x ∷ []) (omega arith))

-- what was added up to a number, and what is added for the next one
pub flat_more : {A : Type 0} (f : ℕ → List A) (k : ℕ)
    → flat_map f (numbers_to (k + 1)) ≡ flat_map f (numbers_to k) ++ f (k + 1)
flat_more f k =
    ap (flat_map f) (numbers_more k) ∙ flat_map-append f (numbers_to k) ((k + 1) ∷ [])
    ∙ ap (λ more. flat_map f (numbers_to k) ++ more) (append-nil (f (k + 1)))

-- what was added up to a number, and what is added for the next one
pub next_number : (f : ℕ → List Command) (n : ℕ) (old mid new : List Command)
    → mid ≡ old ++ flat_map f (numbers_to n) → new ≡ mid ++ f (n + 1)
    → new ≡ old ++ flat_map f (numbers_to (n + 1))
next_number f n old mid new so_far next =
    rw (next, so_far, flat_more f n) (append_assoc old (flat_map f (numbers_to n)) (f (n + 1)))

pub first_number : (f : ℕ → List Command) (old : List Command)
    → old ≡ old ++ flat_map f (numbers_to 0)
first_number f old = rw numbers_none (sym (append-nil old))

count_cons : {A : Type 0} (p : A → Bool) (x : A) (xs : List A)
    → count_by p (x ∷ xs) ≡ cond (p x) 1 0 + count_by p xs
count_cons p x xs =
    sum_by-append (λ y. cond (p y) 1 0) (x ∷ []) xs
    ∙ ap (λ (n : ℕ). n + count_by p xs) (zero_more (cond (p x) 1 0))

-- where nothing passes, the count is 0
count_none : {A : Type 0} (p : A → Bool) → ((x : A) → p x ≡ false) → (xs : List A)
    → count_by p xs ≡ 0
count_none p none [] = refl
count_none p none (x ∷ xs) =
    count_cons p x xs ∙ rw (none x, count_none p none xs) refl

pub count_next : (p : ℕ → Bool) (k : ℕ)
    → count_by p (numbers_to (k + 1)) ≡ count_by p (numbers_to k) + cond (p (k + 1)) 1 0
count_next p k =
    ap (count_by p) (numbers_more k) ∙ count_push p (numbers_to k) (k + 1) (p (k + 1)) refl

none_count : (p : ℕ → Bool) → count_by p (numbers_to 0) ≡ 0
none_count p = ap (count_by p) numbers_none

-- what one number alone passes is passed once at most
once : (p : ℕ → Bool) (m : ℕ) → ((n : ℕ) → p n ≡ true → m ≡ n) → (k : ℕ)
    → count_by p (numbers_to k) ≤ cond (nat_le m k) 1 0
once p m only zero = rw (none_count p) (omega arith)
once p m only (suc k) =
    subst (λ n. count_by p (numbers_to n) ≤ cond (nat_le m n) 1 0) (add-one k) (rw (count_next p k)
    (step (p (k + 1)) (nat_le m k) (nat_le m (k + 1)) refl refl refl (once p m only k)))
  where
    step : (a b c : Bool) → p (k + 1) ≡ a → nat_le m k ≡ b → nat_le m (k + 1) ≡ c
        → count_by p (numbers_to k) ≤ cond b 1 0
        → count_by p (numbers_to k) + cond a 1 0 ≤ cond c 1 0
    step true true c is low high h =
        let same : m ≡ k + 1 = only (k + 1) is in
        let less : m ≤ k = grind (arith, nat_tests) in
        absurd (omega arith)
    step true false false is low high h =
        let same : m ≡ k + 1 = only (k + 1) is in
        let more : k + 1 < m = grind (arith, nat_tests) in
        absurd (omega arith)
    step false true false is low high h = absurd (grind (arith, nat_tests))
    step _ _ _ is low high h = omega arith

person_once : (e : Event) (x : Data) (k : ℕ)
    → count_by (λ n. has_number n x && enters e x) (numbers_to k) ≤ cond (enters e x) 1 0
person_once e x k = step (enters e x)
  where
    most : (b : Bool) → cond b 1 0 ≤ 1
    most true = omega arith
    most false = omega arith

    step : (b : Bool) → count_by (λ n. has_number n x && b) (numbers_to k) ≤ cond b 1 0
    step true =
        let one = one_number x in
        let few = once (λ n. has_number n x && true) one.0
        (λ n h. one.1 n (both_left (has_number n x) true h)) k in
        let least = most (nat_le one.0 k) in
        omega arith
    step false =
        rw
        (count_none (λ n. has_number n x && false) (λ n. and-false (has_number n x)) (numbers_to k))
        (omega arith)

-- one more person in front adds what he alone adds, at most
person_adds : (e : Event) (x : Data) (xs : List Data) (ns : List ℕ)
    → count_by (is_entrant (x ∷ xs) e) ns
    ≤ count_by (is_entrant xs e) ns + count_by (λ n. has_number n x && enters e x) ns
person_adds e x xs [] = omega arith
person_adds e x xs (n ∷ ns) =
    rw (
      count_cons (is_entrant (x ∷ xs) e) n ns,
      count_cons (is_entrant xs e) n ns,
      count_cons (λ m. has_number m x && enters e x) n ns,
    )
    (step (has_number n x) (enters e x) (is_entrant xs e n) (is_entrant (x ∷ xs) e n)
    (entrant_cases (has_number n x)) (count_by (is_entrant (x ∷ xs) e) ns)
    (count_by (is_entrant xs e) ns) (count_by (λ m. has_number m x && enters e x) ns)
    (person_adds e x xs ns))
  where
    entrant_cases : (a : Bool)
        → list_any (enters e) (option_to_list (cond a (Some x) (find (has_number n) xs)))
        ≡ cond a (enters e x || false) (is_entrant xs e n)
    entrant_cases true = refl
    entrant_cases false = refl

    step : (a b c d : Bool) → d ≡ cond a (b || false) c → (i j k : ℕ) → i ≤ j + k
        → cond d 1 0 + i ≤ cond c 1 0 + j + (cond (a && b) 1 0 + k)
    step true true c d is i j k h = rw is (omega arith)
    step true false c d is i j k h = rw is (omega arith)
    step false b c d is i j k h = rw is (omega arith)

pub no_more : (persons : List Data) (e : Event) (k : ℕ)
    → count_by (is_entrant persons e) (numbers_to k) ≤ count_by (enters e) persons
no_more [] e k = rw (count_none (is_entrant [] e) (λ n. refl) (numbers_to k)) (omega arith)
no_more (x ∷ xs) e k =
    let more = person_adds e x xs (numbers_to k) in
    let one = person_once e x k in
    let rest = no_more xs e k in
    rw (count_cons (enters e) x xs) (omega arith)

-- the numbers that pass, of those up to k, and one more
pub filter_next : (p : ℕ → Bool) (k : ℕ)
    → filter p (numbers_to (k + 1)) ≡ filter p (numbers_to k) ++ cond (p (k + 1)) ((k + 1) ∷ []) []
filter_next p k =
    ap (filter p) (numbers_more k) ∙ filter-append p (numbers_to k) ((k + 1) ∷ [])

-- a number is among those up to k that pass where it is one of them and passes
pub among_passing : (p : ℕ → Bool) (n k : ℕ) → 1 ≤ n → (c : Bool) → nat_le n k ≡ c
    → list_any (λ m. n == m) (filter p (numbers_to k)) ≡ (c && p n)
among_passing p n zero low true high = absurd (grind (arith, nat_tests))
among_passing p n zero low false high =
    ap (λ ns. list_any (λ m. n == m) (filter p ns)) numbers_none
among_passing p n (suc k) low c high =
    subst (λ j. (c : Bool) → nat_le n j ≡ c
    → list_any (λ m. n == m) (filter p (numbers_to j)) ≡ (c && p n)) (add-one k)
    (λ d less. ap (list_any (λ m. n == m)) (filter_next p k)
    ∙ list_any-append (λ m. n == m) (filter p (numbers_to k)) (cond (p (k + 1)) ((k + 1) ∷ []) [])
    ∙ ap (λ b. b || list_any (λ m. n == m) (cond (p (k + 1)) ((k + 1) ∷ []) []))
    (among_passing p n k low (nat_le n k) refl) ∙ step (n == k + 1) (nat_le n k) d refl refl less) c
    high
  where
    last : (q : Bool) → list_any (λ m. n == m) (cond q ((k + 1) ∷ []) []) ≡ (q && n == k + 1)
    last true = or-false (n == k + 1)
    last false = refl

    step : (a b c : Bool) → (n == k + 1) ≡ a → nat_le n k ≡ b → nat_le n (k + 1) ≡ c
        → ((b && p n) || list_any (λ m. n == m) (cond (p (k + 1)) ((k + 1) ∷ []) [])) ≡ (c && p n)
    step true false true is low high =
        let same : k + 1 ≡ n = sym (eqb-true n (k + 1) is) in
        last (p (k + 1)) ∙ ap (λ b. p (k + 1) && b) is ∙ and-true (p (k + 1)) ∙ ap p same
    step false true true is low high =
        ap (λ b. p n || b) (last (p (k + 1)) ∙ ap (λ b. p (k + 1) && b) is ∙ and-false (p (k + 1)))
        ∙ or-false (p n)
    step false false false is low high =
        last (p (k + 1)) ∙ ap (λ b. p (k + 1) && b) is ∙ and-false (p (k + 1))
    step _ _ _ is low high = absurd (grind (arith, nat_tests))
