-- Tests of items and the first item that passes; and where nothing is said of the persons, no two
-- accepted ones have one name, and their registrations are in the ranges of their fields.
use Rattle.std.proofs.Common.{◌≡◌, ◌&&◌, ◌||◌, ℕ, Bool, true, false, not, cond, List, [], ◌∷◌, ◌++◌}
use Rattle.std.proofs.Common.{length, map, Option, Some, None, refl, ap, sym, ◌∙◌, eqb-true}
use Rattle.std.proofs.Common.{is_some, nat_lt, subst, append_assoc, ◌≤◌}
use Rattle.std.specs.Prelude.{find, IsTrue}
use Rattle.std.{specs.List.list_any, proofs.lemmas.List.Folds.list_any-append}
use Rattle.std.proofs.lemmas.Bool.{false≢true, and_parts, or_parts}
use Rattle.serde_json.specs.Data.{Data}
use Rattle.texts.{specs.Names.is_clear_name, proofs.Numerals.bytes_eq-same, specs.Numerals.within}
use Rattle.wcif.specs.declared.options.{SameNames.SameNames, Options.Options}
use Rattle.wcif.specs.Persons.{is_accepted, number_of, is_number, has_number, name_as, has_name}
use Rattle.wcif.specs.Persons.{bad_name, name_faults, accepted_faults, most_events, number_faults}
use Rattle.wcif.specs.Persons.{events_faults, event_ids, taken_faults, last_number}
use Rattle.wcif.{specs.Faults.person_faults, specs.Faults.faults_in, proofs.Numbered.ranged}
use Rattle.wcif.specs.{Told.told, Told.told_from, Events.event_faults, Laws.NamesAreApart}
use Rattle.wcif.specs.declared.fault.PersonFault.TheVariants as fault
use Rattle.wcif.specs.declared.fault.CompetitionFault.TheVariants as of

pub front_none : {A : Type 0} (xs ys : List A) → (xs ++ ys) ≡ [] → xs ≡ []
front_none [] ys h = refl
front_none (x ∷ xs) ys h = absurd (cc)

pub back_none : {A : Type 0} (xs ys : List A) → (xs ++ ys) ≡ [] → ys ≡ []
back_none [] ys h = h
back_none (x ∷ xs) ys h = absurd (cc)

pub map_none : {A B : Type 0} (f : A → B) (xs : List A) → map f xs ≡ [] → xs ≡ []
map_none f [] h = refl
map_none f (x ∷ xs) h = absurd (cc)

-- where nothing is said, the test of the first thing fails, and nothing else is said either
pub unsaid : {A : Type 0} (b : Bool) (x : A) (xs ys : List A) → cond b (x ∷ xs) ys ≡ []
    → (b ≡ false) × (ys ≡ [])
unsaid false x xs ys none = (refl, none)
unsaid true x xs ys none = absurd (cc)

pub known : (b : Bool) → not b ≡ false → b ≡ true
known true h = refl
known false h = absurd (cc)

pub both_left : (a b : Bool) → (a && b) ≡ true → a ≡ true
both_left a b h = (and_parts a b h).0

pub both_right : (a b : Bool) → (a && b) ≡ true → b ≡ true
both_right a b h = (and_parts a b h).1

pub or_left : (a b : Bool) → (a || b) ≡ false → a ≡ false
or_left a b h = (or_parts a b h).0

pub or_right : (a b : Bool) → (a || b) ≡ false → b ≡ false
or_right a b h = (or_parts a b h).1

-- where none passes, none is found
pub found_none : {A : Type 0} (p : A → Bool) (xs : List A) → list_any p xs ≡ false
    → find p xs ≡ None
found_none p [] none = refl
found_none p (x ∷ xs) none =
    ap (λ b. cond b (Some x) (find p xs)) (or_left (p x) _ none)
    ∙ found_none p xs (or_right (p x) _ none)

-- where one passes, one is found that passes
pub found_some : {A : Type 0} (p : A → Bool) (xs : List A) → list_any p xs ≡ true
    → (x : A) × (find p xs ≡ Some x)
found_some p [] some = absurd (false≢true some)
found_some {A = A} p (x ∷ xs) some = step (p x) some (found_some p xs)
  where
    step : (b : Bool) → (b || list_any p xs) ≡ true
        → (list_any p xs ≡ true → (y : A) × (find p xs ≡ Some y))
        → (y : A) × (cond b (Some x) (find p xs) ≡ Some y)
    step true h later = (x, refl)
    step false h later = later h

-- what is found is the first item, which passes then, or it is found among the others
pub found_by : {A P : Type 0} (b : Bool) (x y : A) (rest : Option A)
    → cond b (Some x) rest ≡ Some y → (b ≡ true → x ≡ y → P) → (rest ≡ Some y → P) → P
found_by true x y rest h here later = here refl (cc)
found_by false x y rest h here later = later h

pub found_passes : {A : Type 0} (p : A → Bool) (xs : List A) (y : A) → find p xs ≡ Some y
    → p y ≡ true
found_passes p [] y found = absurd (cc)
found_passes p (x ∷ xs) y found =
    found_by (p x) x y (find p xs) found (λ is same. subst (λ z. p z ≡ true) same is)
    (found_passes p xs y)

-- what no item passes, the first that passes another test does not
pub found_fails : {A : Type 0} (p q : A → Bool) (xs : List A) (y : A) → find p xs ≡ Some y
    → list_any q xs ≡ false → q y ≡ false
found_fails p q [] y found none = absurd (cc)
found_fails p q (x ∷ xs) y found none =
    found_by (p x) x y (find p xs) found
    (λ is same. subst (λ z. q z ≡ false) same (or_left (q x) _ none))
    (λ later. found_fails p q xs y later (or_right (q x) _ none))

-- where nothing is said of any item, nothing is said of the one that is found
pub told_found : {A B : Type 0} (said : List A → A → List B) (p : A → Bool) (earlier xs : List A)
    (y : A) → told_from said earlier xs ≡ [] → find p xs ≡ Some y
    → (front : List A) × (said front y ≡ [])
told_found said p earlier [] y none found = absurd (cc)
told_found said p earlier (x ∷ xs) y none found =
    found_by (p x) x y (find p xs) found (λ is same. (
      earlier,
      subst (λ z. said earlier z ≡ []) same (front_none (said earlier x) _ none),
    ))
    (told_found said p (earlier ++ x ∷ []) xs y (back_none (said earlier x) _ none))

pub or_this : (a b c : Bool) → b ≡ true → (a || (b || c)) ≡ true
or_this true b c h = refl
or_this false true c h = refl
or_this false false c h = absurd (false≢true h)

-- each item is among them all
pub each_among : {A : Type 0} (p : A → A → Bool) → ((x : A) → p x x ≡ true)
    → (front xs : List A) → list_any (λ x. not (list_any (p x) (front ++ xs))) xs ≡ false
each_among p own front [] = refl
each_among {A = A} p own front (x ∷ xs) =
    ap (λ b. not b || list_any (λ y. not (list_any (p y) (front ++ x ∷ xs))) xs)
    (list_any-append (p x) front (x ∷ xs)
    ∙ or_this (list_any (p x) front) (p x x) (list_any (p x) xs) (own x))
    ∙ ap (λ (ys : List A). list_any (λ y. not (list_any (p y) ys)) xs)
    (sym (append_assoc front (x ∷ []) xs)) ∙ each_among p own (front ++ x ∷ []) xs

-- where there are not too many events, nothing is said of any person or event
pub all_free : (options : Options) (persons events : List Data)
    → faults_in options (Some persons) (Some events) ≡ []
    → (told_from (person_faults options.names events persons) [] persons ≡ [])
    × (told_from (event_faults options.limits persons) [] events ≡ [])
unfolding told
all_free options persons events none =
    let all = (unsaid (nat_lt most_events (length events)) of.TooManyEvents [] _ none).1 in (
      front_none _ (told (event_faults options.limits persons) events) all,
      back_none (told (person_faults options.names events persons) persons) _ all,
    )

-- nothing is said of the number, the name and the events of this person, given those in front
pub record IsFree (how : SameNames) (events everyone earlier : List Data) (p : Data) : Type 0 where
  pub number : number_faults earlier (number_of p) ≡ []
  pub name : name_faults (list_any (has_name how everyone (name_as how everyone p)) earlier)
      (name_as how everyone p) ≡ []
  pub entries : events_faults events (event_ids p) ≡ []

pub accepted_free : (how : SameNames) (events everyone earlier : List Data) (p : Data)
    → person_faults how events everyone earlier p ≡ [] → is_accepted p ≡ true
    → IsFree how events everyone earlier p
unfolding person_faults accepted_faults
accepted_free how events everyone earlier p none accepted =
    let all : accepted_faults how events everyone earlier p ≡ [] =
    map_none _ _ (rw accepted at none) in
    let front = front_none _ (events_faults events (event_ids p)) all in
    record {
      number = front_none (number_faults earlier (number_of p)) _ front;
      name = back_none (number_faults earlier (number_of p)) _ front;
      entries = back_none _ (events_faults events (event_ids p)) all;
    }

-- the person who is found by a number is accepted and has it, and nothing is said of him
pub found_free : (how : SameNames) (persons events : List Data) (n : ℕ) (p : Data)
    → told_from (person_faults how events persons) [] persons ≡ []
    → find (has_number n) persons ≡ Some p
    → (earlier : List Data) × IsFree how events persons earlier p × (is_accepted p ≡ true)
    × (is_number n (number_of p) ≡ true)
found_free how persons events n p none found =
    let said = told_found (person_faults how events persons) (has_number n) [] persons p none
    found in
    let both = and_parts (is_accepted p) _ (found_passes (has_number n) persons p found) in
    (said.0, accepted_free how events persons said.0 p said.1 both.0, both.0, both.1)

-- a name of which nothing is said
clear_and_free : (how : SameNames) (events everyone earlier : List Data) (p : Data)
    → IsFree how events everyone earlier p → (is_clear_name (name_as how everyone p) ≡ true)
    × (list_any (has_name how everyone (name_as how everyone p)) earlier ≡ false)
clear_and_free how events everyone earlier p free =
    let said = unsaid (not (is_clear_name (name_as how everyone p)))
    (bad_name (name_as how everyone p)) [] _ free.name in (
      known (is_clear_name (name_as how everyone p)) said.0,
      (unsaid _ fault.NameTaken [] [] said.1).0,
    )

-- a number of which nothing is said is there, in the range, and free
pub free_number : (earlier : List Data) (o : Option ℕ) → number_faults earlier o ≡ []
    → (n : ℕ) × (o ≡ Some n) × (list_any (has_number n) earlier ≡ false) × (1 ≤ n)
    × (n ≤ last_number)
free_number earlier None none = absurd (cc)
free_number earlier (Some k) none = step (within 1 last_number k) refl none
  where
    step : (w : Option ℕ) → within 1 last_number k ≡ w → taken_faults earlier w ≡ []
        → (n : ℕ) × (Some k ≡ Some n) × (list_any (has_number n) earlier ≡ false) × (1 ≤ n)
        × (n ≤ last_number)
    step None is h = absurd (cc)
    step (Some m) is h =
        let range = ranged 1 last_number k m is in
        let new = unsaid (list_any (has_number m) earlier) fault.NumberTaken [] [] h in
        (m, ap Some range.0, new.0, range.1, range.2)

-- a person has one number at most
pub one_number : (x : Data) → (m : ℕ) × ((n : ℕ) → has_number n x ≡ true → m ≡ n)
one_number x = step (number_of x) refl
  where
    step : (o : Option ℕ) → number_of x ≡ o → (m : ℕ) × ((n : ℕ) → has_number n x ≡ true → m ≡ n)
    step None is =
        (0, λ n has. absurd (false≢true (sym (ap (is_number n) is) ∙ both_right _ _ has)))
    step (Some m) is =
        (m, λ n has. eqb-true m n (sym (ap (is_number n) is) ∙ both_right _ _ has))

-- somebody has a name in front of one more person
has_more : (how : SameNames) (everyone earlier : List Data) (name : List ℕ) (x : Data)
    → list_any (has_name how everyone name) earlier ≡ true
    → list_any (has_name how everyone name) (earlier ++ x ∷ []) ≡ true
has_more how everyone earlier name x has =
    list_any-append (has_name how everyone name) earlier (x ∷ []) ∙ rw has refl

-- a person has his own name, and one that is equal
has_own : (how : SameNames) (everyone earlier : List Data) (name : List ℕ) (x : Data)
    → is_accepted x ≡ true → name ≡ name_as how everyone x
    → list_any (has_name how everyone name) (earlier ++ x ∷ []) ≡ true
has_own how everyone earlier name x accepted same =
    list_any-append (has_name how everyone name) earlier (x ∷ [])
    ∙ or_this (list_any (has_name how everyone name) earlier) (has_name how everyone name x) false
    (rw (accepted, same) (bytes_eq-same (name_as how everyone x)))

-- once somebody has a name, no accepted person behind him has it
behind : (how : SameNames) (events everyone earlier : List Data) (xs : List Data) (n : ℕ) (p : Data)
    → told_from (person_faults how events everyone) earlier xs ≡ []
    → find (has_number n) xs ≡ Some p
    → list_any (has_name how everyone (name_as how everyone p)) earlier ≡ true → ⊥
behind how events everyone earlier [] n p none found has =
    false≢true (ap is_some found)
behind how events everyone earlier (x ∷ xs) n p none found has =
    found_by (has_number n x) x p (find (has_number n) xs) found (λ is same. false≢true
    (sym (clear_and_free how events everyone earlier x (accepted_free how events everyone earlier x
    (front_none (person_faults how events everyone earlier x) _ none)
    (both_left (is_accepted x) _ is))).1
    ∙ ap (λ q. list_any (has_name how everyone (name_as how everyone q)) earlier) same ∙ has))
    (λ later. behind how events everyone (earlier ++ x ∷ []) xs n p
    (back_none (person_faults how events everyone earlier x) _ none) later
    (has_more how everyone earlier (name_as how everyone p) x has))

apart_from : (how : SameNames) (events everyone earlier : List Data) (xs : List Data) (m n : ℕ)
    (q p : Data) → told_from (person_faults how events everyone) earlier xs ≡ []
    → find (has_number m) xs ≡ Some q → find (has_number n) xs ≡ Some p
    → name_as how everyone q ≡ name_as how everyone p → m ≡ n
apart_from how events everyone earlier [] m n q p none first second same =
    absurd (false≢true (ap is_some first))
apart_from how events everyone earlier (x ∷ xs) m n q p none first second same =
    let rest = back_none (person_faults how events everyone earlier x) _ none in
    let one = one_number x in
    found_by (has_number m x) x q (find (has_number m) xs) first (λ is_m is_q. found_by
    (has_number n x) x p (find (has_number n) xs) second
    (λ is_n is_p. sym (one.1 m is_m) ∙ one.1 n is_n) (λ later. absurd (behind how events everyone
    (earlier ++ x ∷ []) xs n p rest later (has_own how everyone earlier (name_as how everyone p) x
    (both_left (is_accepted x) _ is_m) (sym same ∙ ap (name_as how everyone) (sym is_q))))))
    (λ front. found_by (has_number n x) x p (find (has_number n) xs) second
    (λ is_n is_p. absurd (behind how events everyone (earlier ++ x ∷ []) xs m q rest front
    (has_own how everyone earlier (name_as how everyone q) x (both_left (is_accepted x) _ is_n)
    (same ∙ ap (name_as how everyone) (sym is_p)))))
    (λ later. apart_from how events everyone (earlier ++ x ∷ []) xs m n q p rest front later same))

pub names_apart : NamesAreApart
names_apart options persons events none m n q p =
    apart_from options.names events persons [] persons m n q p
    (all_free options persons events none).0

pub fit_registered : (options : Options) (persons events : List Data)
    → faults_in options (Some persons) (Some events) ≡ []
    → (n : ℕ) (p : Data) → find (has_number n) persons ≡ Some p
    → ((1 ≤ n) × (n ≤ last_number)) × IsTrue (is_clear_name (name_as options.names persons p))
fit_registered options persons events none n p found =
    let free = found_free options.names persons events n p
    (all_free options persons events none).0 found in
    let number = free_number free.0 (number_of p) free.1.number in
    let same : number.0 ≡ n = eqb-true number.0 n (sym (ap (is_number n) number.1) ∙ free.3) in
    let name = clear_and_free options.names events persons free.0 p free.1 in
    ((subst (λ k. 1 ≤ k) same number.3, subst (λ k. k ≤ last_number) same number.4), name.0)
