-- What is kept of the persons, after one more: how many have each name, which names and numbers are
-- there.
use Rattle.std.proofs.Common.{◌≡◌, ◌≤◌, ◌<◌, ◌^◌, ◌+◌, ◌-◌, ℕ, Bool, true, false, cond, min, List}
use Rattle.std.proofs.Common.{[], ◌∷◌, ◌++◌, length, map, take, get_or, Option, Some, unwrap_or}
use Rattle.std.proofs.Common.{refl, ap, sym, ◌∙◌, add-zero, arith, ◌||◌, ◌&&◌, ◌==◌, nat_le, None}
use Rattle.std.specs.{Option.option_and_then, HashMap.get_by_text, HashMap.get}
use Rattle.std.proofs.{Common.is_some, Common.nat_eq, Common.eqb-true, Math.Bool.or-false}
use Rattle.std.specs.Prelude.{count_by, bytes_eq, find}
use Rattle.std.proofs.lemmas.Bool.{false≢true, false_from_ne_true, and_parts}
use Rattle.commands.proofs.Lookups.{or_none}
use Rattle.std.proofs.lemmas.List.{take_more, map-append, Folds.list_any-append, Folds.find-append}
use Rattle.std.proofs.lemmas.List.Sums.{count_by-le-length, sum_by-append}
use Rattle.std.proofs.lemmas.{Slice.Eq.bytes_eq-Decides, Bool.Decides.nat_tests}
use Rattle.texts.{proofs.Numerals.bytes_eq-same, specs.Numerals.within}
use Rattle.serde_json.specs.{Data.Data, View.view, declared.value.Value.Value}
use Rattle.wcif.specs.declared.people.{NameCounts.NameCounts, Names.Names, Numbers.Numbers}
use Rattle.wcif.specs.Persons.{is_accepted, given_name, has_given, name_as, has_name, name_faults}
use Rattle.wcif.specs.Persons.{number_of, is_number, has_number, last_number, number_faults}
use Rattle.wcif.specs.model.Kept.{CountsNames, AreNames, AreNumbers}
use Rattle.std.specs.{List.list_any, HashSet.contains_text, Option.option_map, Option.option_or}
use Rattle.wcif.specs.declared.{fault.PersonFault.PersonFault, options.SameNames.SameNames}
use Rattle.wcif.specs.declared.fault.PersonFault.TheVariants as fault

-- one more value, as a loop goes on
pub viewed_more : (vs : List Value) (i : ℕ) (d : Value) → i < length vs
    → map view (take (i + 1) vs) ≡ map view (take i vs) ++ view (get_or vs i d) ∷ []
viewed_more vs i d within = rw (take_more vs i d within) (map-append view (take i vs) (get_or vs i
    d ∷ []))

pub zero_more : (n : ℕ) → 0 + n ≡ n
zero_more n = omega arith

pub count_push : {A : Type 0} (p : A → Bool) (xs : List A) (x : A) (b : Bool) → p x ≡ b
    → count_by p (xs ++ x ∷ []) ≡ count_by p xs + cond b 1 0
count_push p xs x b is =
    sum_by-append (λ y. cond (p y) 1 0) xs (x ∷ [])
    ∙ ap (λ (n : ℕ). count_by p xs + n)
    (zero_more (cond (p x) 1 0) ∙ ap (λ (a : Bool). cond a 1 0) is)

-- what was put under a text, by an equal text and value
pub put_as : (found old : Option ℕ) (bs given name : List ℕ) (put value : ℕ)
    → bs ≡ given → put ≡ value → found ≡ cond (bytes_eq bs name) (Some put) old
    → found ≡ cond (bytes_eq given name) (Some value) old
put_as found old bs given name put value same is h = rw (← same, ← is) h

least : (n m : ℕ) → n ≤ m → m + 1 < 2 ^ 64 → min (n + 1) (2 ^ 64 - 1) ≡ n + 1
least n m within few = omega arith

pub bytes_eq-swap : (xs ys : List ℕ) → bytes_eq xs ys ≡ bytes_eq ys xs
bytes_eq-swap xs ys = step (bytes_eq ys xs) refl
  where
    step : (b : Bool) → bytes_eq ys xs ≡ b → bytes_eq xs ys ≡ b
    step true is = rw ((bytes_eq-Decides ys xs).0 is) (bytes_eq-same xs)
    step false is =
        false_from_ne_true (bytes_eq xs ys)
        (λ same. false≢true (sym is ∙ rw ((bytes_eq-Decides xs ys).0 same) (bytes_eq-same ys)))

-- an accepted person counts for his name
pub CountsNames-more : (persons : List Data) (p : Data) (old new : NameCounts)
    → is_accepted p ≡ true → length persons + 1 < 2 ^ 64 → ((name : List ℕ)
    → get_by_text new.counts name ≡ cond (bytes_eq (given_name p) name)
    (Some (min (unwrap_or (get_by_text old.counts (given_name p)) 0 + 1) (2 ^ 64 - 1)))
    (get_by_text old.counts name)) → CountsNames persons old → CountsNames (persons ++ p ∷ []) new
CountsNames-more persons p old new accepted few put counts = record {
  counts = λ name. step name (bytes_eq (given_name p) name) refl;
}
  where
    step : (name : List ℕ) (b : Bool) → bytes_eq (given_name p) name ≡ b
        → unwrap_or (get_by_text new.counts name) 0 ≡ count_by (has_given name) (persons ++ p ∷ [])
    step name true same =
        let is : given_name p ≡ name = (bytes_eq-Decides (given_name p) name).0 same in
        let has : has_given name p ≡ true = rw (accepted, ← is) (bytes_eq-same (given_name p)) in
        rw (put name, same, count_push (has_given name) persons p true has, is, counts.counts name)
        (least (count_by (has_given name) persons) (length persons)
        (count_by-le-length (has_given name) persons) few)
    step name false other =
        let not_given : has_given name p ≡ false =
        rw accepted (bytes_eq-swap name (given_name p) ∙ other) in
        rw (put name, other, count_push (has_given name) persons p false not_given)
        (counts.counts name ∙ sym (add-zero (count_by (has_given name) persons)))

put_true : (b x : Bool) → cond b true x ≡ (b || x)
put_true true x = refl
put_true false x = refl

pub put_name : (bs other : List ℕ) (found old : Bool) → found ≡ cond (bytes_eq bs other) true old
    → found ≡ (bytes_eq other bs || old)
put_name bs other found old put =
    put ∙ put_true (bytes_eq bs other) old ∙ ap (λ b. b || old) (bytes_eq-swap bs other)

-- what is said of a name, by the kept names
pub name_said : (how : SameNames) (everyone earlier : List Data) (p : Data) (name : List ℕ)
    (kept : Names) → AreNames how everyone earlier kept → name ≡ name_as how everyone p
    → name_faults (contains_text kept.names name) name ≡ name_faults
    (list_any (has_name how everyone (name_as how everyone p)) earlier) (name_as how everyone p)
name_said how everyone earlier p name kept are is = rw (are.names name, is) refl

pub faults_joined : (new f1 f2 f3 g1 g2 g3 front : List PersonFault)
    → front ≡ [] → f1 ≡ g1 → f2 ≡ g2 → f3 ≡ g3
    → new ≡ front ++ f1 ++ f2 ++ f3 → new ≡ g1 ++ g2 ++ g3
faults_joined new f1 f2 f3 g1 g2 g3 front none e1 e2 e3 is =
    rw (← e1, ← e2, ← e3) (is ∙ rw none refl)

-- a person who is not accepted has no name at a desk
pub AreNames-other : (how : SameNames) (everyone earlier : List Data) (p : Data) (kept : Names)
    → is_accepted p ≡ false → AreNames how everyone earlier kept
    → AreNames how everyone (earlier ++ p ∷ []) kept
AreNames-other how everyone earlier p kept other are = record {
  names =
      λ name. are.names name
      ∙ sym (list_any-append (has_name how everyone name) earlier (p ∷ [])
      ∙ rw other (or-false (list_any (has_name how everyone name) earlier)));
}

-- some item passes where one is found
pub any_found : {A : Type 0} (p : A → Bool) (xs : List A) → list_any p xs ≡ is_some (find p xs)
any_found p [] = refl
any_found p (x ∷ xs) = step (p x) (any_found p xs)
  where
    step : (b : Bool) → list_any p xs ≡ is_some (find p xs)
        → (b || list_any p xs) ≡ is_some (cond b (Some x) (find p xs))
    step true later = refl
    step false later = later

or_found : {A : Type 0} (o : Option A) (more : Option A) → is_some o ≡ true → option_or o more ≡ o
or_found None more h = absurd (false≢true h)
or_found (Some x) more h = refl

unfound : {A : Type 0} (o : Option A) → is_some o ≡ false → o ≡ None
unfound None h = refl
unfound (Some x) h = absurd (false≢true (sym h))

-- the first that passes stays where one more item does not pass, or was not the first
pub find_kept : {A : Type 0} (p : A → Bool) (xs : List A) (x : A)
    → (p x ≡ true → is_some (find p xs) ≡ true) → find p (xs ++ x ∷ []) ≡ find p xs
find_kept p xs x later = find-append p xs (x ∷ []) ∙ step (p x) refl
  where
    step : (b : Bool) → p x ≡ b → option_or (find p xs) (cond (p x) (Some x) None) ≡ find p xs
    step true is = or_found (find p xs) _ (later is)
    step false is = rw is (or_none (find p xs))

-- what stays where one more person has no new number
AreNumbers-kept : (persons : List Data) (p : Data) (kept : Numbers)
    → ((n : ℕ) → 1 ≤ n → n ≤ last_number → has_number n p ≡ true
    → is_some (find (has_number n) persons) ≡ true)
    → AreNumbers persons kept → AreNumbers (persons ++ p ∷ []) kept
AreNumbers-kept persons p kept later are = record {
  numbers =
      λ n low high. are.numbers n low high
      ∙ sym (find_kept (has_number n) persons p (later n low high));
}

-- a person with a number is accepted, and the number is his
number_is : (n : ℕ) (p : Data) (o : Option ℕ) → number_of p ≡ o → has_number n p ≡ true
    → is_number n o ≡ true
number_is n p o is has =
    rw (← is) (and_parts (is_accepted p) (is_number n (number_of p)) has).1

pub AreNumbers-other : (persons : List Data) (p : Data) (kept : Numbers) → is_accepted p ≡ false
    → AreNumbers persons kept → AreNumbers (persons ++ p ∷ []) kept
AreNumbers-other persons p kept other are =
    AreNumbers-kept persons p kept (λ n low high has. absurd (step n has)) are
  where
    step : (n : ℕ) → has_number n p ≡ true → ⊥
    step n has = false≢true (rw other at has)

-- a number in a range, and one out of it
pub in_range : (low high n : ℕ) → low ≤ n → n ≤ high → within low high n ≡ Some n
in_range low high n below above = grind (arith, nat_tests)

pub ranged : (low high k m : ℕ) → within low high k ≡ Some m → (k ≡ m) × (low ≤ m) × (m ≤ high)
ranged low high k m is =
    step (nat_le low k) (nat_le k high) refl refl is
  where
    step : (a b : Bool) → nat_le low k ≡ a → nat_le k high ≡ b
        → cond (a && b) (Some k) None ≡ Some m → (k ≡ m) × (low ≤ m) × (m ≤ high)
    step true true first second h =
        let same : k ≡ m = cc in (same, grind (arith, nat_tests), grind (arith, nat_tests))
    step true false first second h = absurd (cc)
    step false b first second h = absurd (cc)

pub AreNumbers-outside : (persons : List Data) (p : Data) (o : Option ℕ) (kept : Numbers)
    → number_of p ≡ o → option_and_then (within 1 last_number) o ≡ None
    → AreNumbers persons kept → AreNumbers (persons ++ p ∷ []) kept
AreNumbers-outside persons p o kept number outside are =
    AreNumbers-kept persons p kept
    (λ n low high has. absurd (step o outside n low high (number_is n p o number has))) are
  where
    step : (o : Option ℕ) → option_and_then (within 1 last_number) o ≡ None
        → (n : ℕ) → 1 ≤ n → n ≤ last_number → is_number n o ≡ true → ⊥
    step None out n low high has = false≢true has
    step (Some k) out n low high has =
        let same : k ≡ n = eqb-true k n has in
        let inside : within 1 last_number k ≡ Some k = rw same (in_range 1 last_number n low high)
        in
        false≢true (ap is_some (sym out ∙ inside))

mapped : {A B : Type 0} (f : A → B) (o : Option A) → is_some (option_map f o) ≡ is_some o
mapped f None = refl
mapped f (Some x) = refl

-- a number is kept where a person has it
pub is_kept : (persons : List Data) (m : ℕ) (kept : Numbers) → 1 ≤ m → m ≤ last_number
    → AreNumbers persons kept
    → is_some (get nat_eq kept.persons m) ≡ is_some (find (has_number m) persons)
is_kept persons m kept low high are =
    sym (mapped (λ v. view v.now) (get nat_eq kept.persons m)) ∙ ap is_some (are.numbers m low high)

pub AreNumbers-taken : (persons : List Data) (p : Data) (k m : ℕ) (kept : Numbers)
    → number_of p ≡ Some k → within 1 last_number k ≡ Some m
    → is_some (get nat_eq kept.persons m) ≡ true
    → AreNumbers persons kept → AreNumbers (persons ++ p ∷ []) kept
AreNumbers-taken persons p k m kept number is taken are =
    AreNumbers-kept persons p kept (λ n low high has. step n has) are
  where
    range : (k ≡ m) × (1 ≤ m) × (m ≤ last_number)
    range = ranged 1 last_number k m is

    step : (n : ℕ) → has_number n p ≡ true → is_some (find (has_number n) persons) ≡ true
    step n has =
        let same : m ≡ n = sym range.0 ∙ eqb-true k n (number_is n p (Some k) number has) in
        rw (← same) (sym (is_kept persons m kept range.1 range.2 are) ∙ taken)

-- what is said of a number that is in the range
pub taken_said : (persons : List Data) (k m : ℕ) (kept : Numbers) (b : Bool)
    → within 1 last_number k ≡ Some m → is_some (get nat_eq kept.persons m) ≡ b
    → AreNumbers persons kept → number_faults persons (Some k) ≡ cond b (fault.NumberTaken ∷ []) []
taken_said persons k m kept b is kept_is are =
    let range = ranged 1 last_number k m is in
    rw (
      is,
      any_found (has_number m) persons,
      ← is_kept persons m kept range.1 range.2 are,
      kept_is,
    ) refl

-- the number of one more person is new
pub AreNumbers-more : (persons : List Data) (p : Data) (m : ℕ) (old new : Numbers)
    → is_accepted p ≡ true → number_of p ≡ Some m → is_some (find (has_number m) persons) ≡ false
    → ((n : ℕ) → option_map (λ v. view v.now) (get nat_eq new.persons n)
    ≡ cond (m == n) (Some p) (option_map (λ v. view v.now) (get nat_eq old.persons n)))
    → AreNumbers persons old → AreNumbers (persons ++ p ∷ []) new
AreNumbers-more persons p m old new accepted number absent put are = record {
  numbers = λ n low high. step n low high (m == n) refl;
}
  where
    step : (n : ℕ) → 1 ≤ n → n ≤ last_number → (b : Bool) → (m == n) ≡ b
        → option_map (λ v. view v.now) (get nat_eq new.persons n)
        ≡ find (has_number n) (persons ++ p ∷ [])
    step n low high true same =
        let none : find (has_number n) persons ≡ None = rw (← eqb-true m n same) (unfound _
        absent) in
        let has : has_number n p ≡ true = rw (accepted, number) same in
        put n ∙ rw (same, find-append (has_number n) persons (p ∷ []), none, has) refl
    step n low high false other =
        let not_has : has_number n p ≡ false = rw (accepted, number) other in
        put n ∙ rw other (are.numbers n low high)
        ∙ sym (find_kept (has_number n) persons p (λ h. absurd (false≢true (sym not_has ∙ h))))

-- what is found after a value was put under a number
pub mapped_put : {A B : Type 0} (f : A → B) (found old : Option A) (b : Bool) (x : A)
    → found ≡ cond b (Some x) old → option_map f found ≡ cond b (Some (f x)) (option_map f old)
mapped_put f found old true x put = ap (option_map f) put
mapped_put f found old false x put = ap (option_map f) put
