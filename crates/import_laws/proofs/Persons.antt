-- The persons of a competition's file, as the import reads them.
use Rattle.std.proofs.Common.{◌≡◌, refl, sym, ap, subst, ◌∙◌, ℕ, ◌≤◌, arith, Bool, true, false}
use Rattle.std.proofs.lemmas.List.{length-map}
use Rattle.std.proofs.Common.{◌&&◌, ◌==◌, cond, List, [], ◌∷◌, ◌++◌, length, map, filter, codes}
use Rattle.std.proofs.Common.{bytes_eq, Option, Some, None, unwrap_or, option_and_then, nat_lt, not}
use Rattle.std.specs.{Prelude.count_by, List.list_any, List.AllByRecursion}
use Rattle.std.proofs.lemmas.{Bool.Decides.nat_tests, List.Elements.filter-append}
use Rattle.serde_json.specs.{Data.Data, Find.as_number, Find.as_u64}
use Rattle.formats.specs.{declared.events.Event.Event, Events.event_name}
use Rattle.wcif.specs.{declared.fault.CompetitionFault.CompetitionFault, Faults.who, Members.listed}
use Rattle.wcif.specs.declared.options.SameNames.{SameNames, TheVariants.Refuse, TheVariants.WithId}
use Rattle.wcif.specs.{Events.enters as reads_enters, Faults.person_faults, Told.told, Told.place}
use Rattle.wcif.proofs.Numbered.{bytes_eq-swap, in_range}
use Rattle.import_laws.specs.Competitions.{Status, accepted, pending, deleted, Person, Held}
use Rattle.import_laws.specs.Competitions.{Competition, is_accepted, takes_part, who_take_part}
use Rattle.import_laws.specs.Held.{IsEntrant, IsHeld, AreApart, IsAmong, same_event, same_number}
use Rattle.import_laws.specs.Held.{same_name, enters, event_of}
use Rattle.import_laws.{specs.SetUp.number_of, specs.Spelled.status_name, proofs.Values.data_items}
use Rattle.import_laws.proofs.Datas.{person_data, number_data, id_data, event_data}
use Rattle.import_laws.proofs.Lists.{told_nothing, all_at, apart_front, any_filter, any_mapped}
use Rattle.import_laws.proofs.Lists.{count_mapped, count_filter, count_apart}
use Rattle.wcif.specs.declared.fault.CompetitionFault.TheVariants as of
use Rattle.wcif.specs.declared.fault.PersonFault.TheVariants as fault
use Rattle.wcif.specs.Persons as read

pub listed_items : (ds : List Data) → listed (data_items ds) ≡ ds
listed_items [] = refl
listed_items (d ∷ ds) = ap (λ es. d ∷ es) (listed_items ds)

-- What is read of a person

status_is : (s : Status) → bytes_eq (status_name s) (codes "accepted") ≡ is_accepted s
status_is accepted = refl
status_is pending = refl
status_is deleted = refl

pub takes : (p : Person) → read.is_accepted (person_data p) ≡ takes_part p
unfolding read.is_accepted
takes p = status_is p.status

number_read : (o : Option ℕ) → option_and_then as_u64 (as_number (number_data o)) ≡ o
number_read None = refl
number_read (Some n) = refl

pub number_is : (p : Person) → read.number_of (person_data p) ≡ p.number
unfolding read.number_of
number_is p = number_read p.number

pub name_is : (p : Person) → read.given_name (person_data p) ≡ p.name
unfolding read.given_name
name_is p = refl

pub ids_are : (p : Person) → read.event_ids (person_data p) ≡ Some (map id_data p.events)
unfolding read.event_ids
ids_are p = ap Some (listed_items (map id_data p.events))

equal_swap : (m n : ℕ) → (m == n) ≡ (n == m)
equal_swap m n = grind (arith, nat_tests)

-- the number is that of a person, or the person has none
number_equal : (n : ℕ) (o : Option ℕ) → 1 ≤ n → read.is_number n o ≡ (n == unwrap_or o 0)
number_equal n None h = grind (arith, nat_tests)
number_equal n (Some m) h = equal_swap m n

pub numbered : (n : ℕ) → 1 ≤ n → (p : Person)
    → read.has_number n (person_data p) ≡ (takes_part p && (n == number_of p))
numbered n h p = rw (takes p, number_is p, number_equal n p.number h) refl

-- Where the persons of a competition fit

-- what is known of a person at a place among the others
pub record IsAt (c : Competition) (front : List Person) (p : Person) : Type 0 where
  pub entrant : IsEntrant (map event_of c.events) p
  pub own_number : list_any (same_number p) (filter takes_part front) ≡ false
  pub own_name : list_any (same_name p) (filter takes_part front) ≡ false

who_are : (front : List Person) (p : Person) (back : List Person) → takes_part p ≡ true
    → filter takes_part (front ++ p ∷ back) ≡ filter takes_part front ++ p ∷ filter takes_part back
who_are front p back is = filter-append takes_part front (p ∷ back) ∙ rw is refl

same_number-swap : (p q : Person) → same_number p q ≡ same_number q p
same_number-swap p q = equal_swap (number_of p) (number_of q)

same_name-swap : (p q : Person) → same_name p q ≡ same_name q p
same_name-swap p q = bytes_eq-swap p.name q.name

pub is_at : (c : Competition) → IsHeld c → (front : List Person) (p : Person)
    (back : List Person) → front ++ p ∷ back ≡ c.persons → takes_part p ≡ true → IsAt c front p
is_at c h front p back is part =
    let who : who_take_part c ≡ filter takes_part front ++ p ∷ filter takes_part back =
    ap (filter takes_part) (sym is) ∙ who_are front p back part in
    record {
      entrant =
          all_at (IsEntrant (map event_of c.events)) (filter takes_part front) p
          (filter takes_part back)
          (subst (AllByRecursion (IsEntrant (map event_of c.events))) who h.entrants);
      own_number =
          apart_front same_number same_number-swap (filter takes_part front) p
          (filter takes_part back) (subst (AreApart same_number) who h.own_numbers);
      own_name =
          apart_front same_name same_name-swap (filter takes_part front) p
          (filter takes_part back) (subst (AreApart same_name) who h.own_names);
    }

-- Names

given_equal : (name : List ℕ) (p : Person)
    → read.has_given name (person_data p) ≡ (takes_part p && bytes_eq name p.name)
given_equal name p = rw (takes p, name_is p) refl

abbrev key_of : Person → List ℕ
key_of p = p.name

-- no name is shared
pub unshared : (c : Competition) → IsHeld c → (name : List ℕ)
    → read.is_shared (map person_data c.persons) name ≡ false
unfolding read.is_shared
unshared c h name =
    let count : count_by (read.has_given name) (map person_data c.persons) ≡ count_by
    (λ p. bytes_eq name p.name) (who_take_part c) = count_mapped person_data (read.has_given name)
    (λ p. takes_part p && bytes_eq name p.name) (given_equal name) c.persons
    ∙ count_filter takes_part (λ p. bytes_eq name p.name) c.persons in
    let few : count_by (λ p. bytes_eq name p.name) (who_take_part c) ≤ 1 =
    count_apart key_of name (who_take_part c) h.own_names in
    ap (nat_lt 1) count ∙ grind (arith, nat_tests)

-- so a desk gets the name of the file
pub named : (how : SameNames) (c : Competition) → IsHeld c → (p : Person)
    → read.name_as how (map person_data c.persons) (person_data p) ≡ p.name
unfolding read.id_as
named Refuse c h p = name_is p
named WithId c h p = rw (unshared c h (read.given_name (person_data p))) (name_is p)

named_equal : (how : SameNames) (c : Competition) → IsHeld c → (name : List ℕ) (p : Person)
    → read.has_name how (map person_data c.persons) name (person_data p)
    ≡ (takes_part p && bytes_eq name p.name)
named_equal how c h name p = rw (takes p, named how c h p) refl

-- Faults

no_number_faults : (c : Competition) → IsHeld c → (front : List Person) (p : Person)
    → IsAt c front p
    → read.number_faults (map person_data front) (read.number_of (person_data p)) ≡ []
no_number_faults c h front p at =
    let n : ℕ = at.entrant.number in
    let low : 1 ≤ n = at.entrant.number_within.0 in
    let known : number_of p ≡ n = ap (λ o. unwrap_or o 0) at.entrant.has_number in
    rw (
      number_is p ∙ at.entrant.has_number,
      in_range 1 9999 n low at.entrant.number_within.1,
      any_mapped person_data (read.has_number n) (λ q. takes_part q && (n == number_of q))
          (numbered n low) front ∙ sym (any_filter takes_part (λ q. n == number_of q) front) ∙ ap
          (λ m. list_any (λ q. m == number_of q) (filter takes_part front)) (sym known)
          ∙ at.own_number,
    ) refl

no_name_faults : (how : SameNames) (c : Competition) → IsHeld c → (front : List Person)
    (p : Person) → IsAt c front p → (name : List ℕ) → name ≡ p.name → read.name_faults
    (list_any (read.has_name how (map person_data c.persons) name) (map person_data front)) name
    ≡ []
no_name_faults how c h front p at name is =
    let everyone : List Data = map person_data c.persons in
    ap
    (λ n. read.name_faults (list_any (read.has_name how everyone n) (map person_data front)) n) is
    ∙ ap (λ taken. read.name_faults taken p.name)
    (any_mapped person_data (read.has_name how everyone p.name)
    (λ q. takes_part q && bytes_eq p.name q.name) (named_equal how c h p.name) front
    ∙ sym (any_filter takes_part (λ q. bytes_eq p.name q.name) front) ∙ at.own_name)
    ∙ ap (λ b. cond (not b) (read.bad_name p.name ∷ []) []) at.entrant.name

-- an event of the file
has_id_equal : (e : Event) (h : Held)
    → read.has_id (event_name e) (event_data h) ≡ same_event e h.event
has_id_equal e h = refl

is_id_equal : (e : Event) (other : Event)
    → read.is_id (event_name e) (id_data other) ≡ same_event e other
is_id_equal e other = refl

pub same_event-swap : (a b : Event) → same_event a b ≡ same_event b a
same_event-swap a b = bytes_eq-swap (event_name a) (event_name b)

no_id_faults : (events : List Held) (es : List Event)
    → AllByRecursion (IsAmong (map event_of events)) es → AreApart same_event es
    → (front : List Event) (e : Event) (back : List Event) → front ++ e ∷ back ≡ es
    → read.id_faults (map event_data events) (map id_data front) (id_data e) ≡ []
no_id_faults events es among apart front e back is =
    let there : list_any (read.has_id (event_name e)) (map event_data events) ≡ true = any_mapped
    event_data (read.has_id (event_name e)) (λ h. same_event e h.event) (has_id_equal e) events
    ∙ sym (any_mapped event_of (same_event e) (λ h. same_event e h.event) (λ h. refl) events)
    ∙ all_at (IsAmong (map event_of events)) front e back
    (subst (AllByRecursion (IsAmong (map event_of events))) (sym is) among) in
    let once : list_any (read.is_id (event_name e)) (map id_data front) ≡ false =
    any_mapped id_data (read.is_id (event_name e)) (same_event e) (is_id_equal e) front
    ∙ apart_front same_event same_event-swap front e back
    (subst (AreApart same_event) (sym is) apart) in
    rw (there, once) refl

no_events_faults : (c : Competition) (p : Person) → IsEntrant (map event_of c.events) p
    → read.events_faults (map event_data c.events) (read.event_ids (person_data p)) ≡ []
no_events_faults c p is =
    let few : length (map id_data p.events) ≤ 100 =
    let same = length-map p.events id_data in let few = is.few in omega (arith, same, few) in
    ap (read.events_faults (map event_data c.events)) (ids_are p)
    ∙ ap (λ b. cond b (fault.TooManyEvents ∷ [])
    (told (read.id_faults (map event_data c.events)) (map id_data p.events))) (let many : nat_lt 100
    (length (map id_data p.events)) ≡ false = grind (arith, nat_tests) in
    many)
    ∙ told_nothing id_data (read.id_faults (map event_data c.events)) p.events
    (no_id_faults c.events p.events is.among is.once)

none_accepted : (how : SameNames) (c : Competition) → IsHeld c → (front : List Person)
    (p : Person) → IsAt c front p
    → read.accepted_faults how (map event_data c.events) (map person_data c.persons)
    (map person_data front) (person_data p) ≡ []
unfolding read.accepted_faults
none_accepted how c h front p at =
    let events : List Data = map event_data c.events in
    let everyone : List Data = map person_data c.persons in
    let d : Data = person_data p in
    let name : List ℕ = read.name_as how everyone d in
    let taken : Bool = list_any (read.has_name how everyone name) (map person_data front) in
    rw (
      no_number_faults c h front p at,
      no_name_faults how c h front p at name (named how c h p),
      no_events_faults c p at.entrant,
    ) refl

-- nothing is told of a person
pub no_person_faults : (how : SameNames) (c : Competition) → IsHeld c → (front : List Person)
    (p : Person) (back : List Person) → front ++ p ∷ back ≡ c.persons
    → person_faults how (map event_data c.events) (map person_data c.persons)
    (map person_data front) (person_data p) ≡ []
unfolding person_faults
no_person_faults how c h front p back is =
    let events : List Data = map event_data c.events in
    let everyone : List Data = map person_data c.persons in
    let earlier : List Data = map person_data front in
    let told_of : Bool → List CompetitionFault =
    λ b. cond b (map (of.Person (place earlier) (who (person_data p)))
    (read.accepted_faults how events everyone earlier (person_data p))) [] in
    ap told_of (takes p) ∙ step (takes_part p) refl
  where
    step : (b : Bool) → takes_part p ≡ b
        → cond b (map (of.Person (place (map person_data front)) (who (person_data p)))
        (read.accepted_faults how (map event_data c.events) (map person_data c.persons)
        (map person_data front) (person_data p))) [] ≡ []
    step true part =
        ap (map (of.Person (place (map person_data front)) (who (person_data p))))
        (none_accepted how c h front p (is_at c h front p back is part))
    step false part = refl

-- an entrant of an event
pub enters_equal : (e : Event) (p : Person) → reads_enters e (person_data p) ≡ enters e p
unfolding reads_enters
enters_equal e p =
    rw (
      takes p,
      ids_are p,
      any_mapped id_data (read.is_id (event_name e)) (same_event e) (is_id_equal e) p.events,
    ) refl
