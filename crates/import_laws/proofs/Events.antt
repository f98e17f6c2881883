-- The events of a competition's file: a desk holds each.
use Rattle.std.proofs.Common.{◌≡◌, subst, arith, false, length, nat_lt, option_map, option_and_then}
use Rattle.std.proofs.Common.{refl, sym, ap, ◌∙◌, ℕ, ◌≤◌, ◌==◌, List, [], ◌∷◌, ◌++◌, map, Some, ◌+◌}
use Rattle.std.proofs.lemmas.{List.map-append, Bool.Decides.nat_tests}
use Rattle.std.specs.Prelude.{count_by, option_to_list, slice_get}
use Rattle.std.specs.List.{list_any, AllByRecursion}
use Rattle.serde_json.specs.Data.{Data}
use Rattle.formats.specs.{declared.events.Event.Event, Events.event_name}
use Rattle.formats.proofs.Naming.{only_name-event}
use Rattle.texts.specs.declared.command.{Command.TheVariants.Open, Settings.Settings}
use Rattle.texts.specs.Fields.{round_id}
use Rattle.wcif.specs.{declared.options.CumulativeLimits.CumulativeLimits, Persons.has_id}
use Rattle.wcif.specs.{Commands.opened, Rounds.settings_in, Told.told, Told.place}
use Rattle.wcif.specs.Events.{event_named, enters as reads_enters, repeated_faults, entrants_faults}
use Rattle.wcif.specs.Events.{rounds_of, rounds_faults, event_faults}
use Rattle.import_laws.specs.Competitions.{Person, Held, Competition}
use Rattle.import_laws.specs.Held.{IsEvent, IsHeld, IsRound, AreApart, same_event, enters, event_of}
use Rattle.import_laws.specs.SetUp.{open_first, open_with}
use Rattle.import_laws.proofs.Datas.{person_data, event_data, rounds_data}
use Rattle.import_laws.proofs.Lists.{all_at, apart_front, any_mapped, count_mapped}
use Rattle.import_laws.proofs.Persons.{listed_items, same_event-swap, enters_equal}
use Rattle.import_laws.proofs.Rounds.{no_rounds_faults, settings_are}

pub event_is : (h : Held) → event_named (event_data h) ≡ Some h.event
unfolding event_named
event_is h = (only_name-event h.event (event_name h.event)).1 refl

pub rounds_are : (h : Held) → rounds_of (event_data h) ≡ rounds_data h.event 1 h.rounds
unfolding rounds_of
rounds_are h = listed_items (rounds_data h.event 1 h.rounds)

rounds_length : (e : Event) (n : ℕ) (ss : List Settings) → length (rounds_data e n ss) ≡ length ss
rounds_length e n [] = refl
rounds_length e n (s ∷ ss) = let h = rounds_length e (n + 1) ss in omega (arith, h)

not_repeated : (c : Competition) → IsHeld c → (front : List Held) (h : Held) (back : List Held)
    → front ++ h ∷ back ≡ c.events → repeated_faults h.event (map event_data front) ≡ []
not_repeated c is front h back at =
    rw (any_mapped event_data (has_id (event_name h.event)) (λ g. same_event h.event g.event)
    (λ g. refl) front ∙ apart) refl
  where
    apart : list_any (λ g. same_event h.event g.event) front ≡ false
    apart =
        sym (any_mapped event_of (same_event h.event) (λ g. same_event h.event g.event) (λ g. refl)
        front)
        ∙ apart_front same_event same_event-swap (map event_of front) h.event (map event_of back)
        (subst (AreApart same_event)
        (ap (map event_of) (sym at) ∙ map-append event_of front (h ∷ back)) is.own_events)

few_entrants : (ps : List Person) (e : Event) (at : ℕ) → count_by (enters e) ps ≤ 999
    → entrants_faults e at (map person_data ps) ≡ []
few_entrants ps e at few =
    rw (ap (nat_lt 999) (count_mapped person_data (reads_enters e) (enters e) (enters_equal e) ps)
    ∙ many) refl
  where
    many : nat_lt 999 (count_by (enters e) ps) ≡ false
    many = grind (arith, nat_tests)

its_rounds : (how : CumulativeLimits) (e : Event) (at : ℕ) (ss : List Settings)
    → 1 ≤ length ss → length ss ≤ 4 → AllByRecursion (IsRound e) ss
    → rounds_faults how e at (rounds_data e 1 ss) ≡ []
its_rounds how e at ss low high each =
    let same = rounds_length e 1 ss in
    let some : (length (rounds_data e 1 ss) == 0) ≡ false = grind (arith, nat_tests) in
    let few : nat_lt 4 (length (rounds_data e 1 ss)) ≡ false = grind (arith, nat_tests) in
    rw (some, few) (no_rounds_faults how e ss each)

-- nothing is told of an event
pub no_event_faults : (how : CumulativeLimits) (c : Competition) → IsHeld c → (front : List Held)
    (h : Held) (back : List Held) → front ++ h ∷ back ≡ c.events
    → event_faults how (map person_data c.persons) (map event_data front) (event_data h) ≡ []
unfolding event_faults
no_event_faults how c is front h back at =
    let persons : List Data = map person_data c.persons in
    let earlier : List Data = map event_data front in
    let fits : IsEvent c.persons h = all_at (IsEvent c.persons) front h back
    (subst (AllByRecursion (IsEvent c.persons)) (sym at) is.events) in
    rw (
      event_is h,
      not_repeated c is front h back at,
      few_entrants c.persons h.event (place earlier) fits.few,
      rounds_are h,
      its_rounds how h.event (place earlier) h.rounds fits.rounds.0 fits.rounds.1 fits.each,
    ) refl

first_opened : (how : CumulativeLimits) (e : Event) (ss : List Settings)
    → AllByRecursion (IsRound e) ss → option_to_list (option_map (Open (round_id e 1))
    (option_and_then (settings_in how e) (slice_get (rounds_data e 1 ss) 0))) ≡ open_with e ss
first_opened how e [] each = refl
first_opened how e (s ∷ ss) each = rw (settings_are how e 1 s each.0) refl

-- what is opened of an event
pub opened_is : (how : CumulativeLimits) (ps : List Person) (h : Held) → IsEvent ps h
    → opened how (event_data h) ≡ open_first h
unfolding opened
opened_is how ps h fits =
    rw (event_is h, rounds_are h) (first_opened how h.event h.rounds fits.each)
