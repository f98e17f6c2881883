-- A competition's file is imported to the commands of the competition.
use Rattle.std.proofs.Common.{◌≡◌, refl, sym, ap, ◌∙◌, ℕ, ◌≤◌, arith, false, ◌==◌, cond, List, []}
use Rattle.std.proofs.Common.{◌∷◌, ◌++◌, length, map, flat_map, find, codes, Option, Some, None}
use Rattle.std.proofs.Common.{unwrap_or, nat_lt, option_map, eqb-true}
use Rattle.std.proofs.lemmas.{List.length-map, Bool.Decides.nat_tests}
use Rattle.std.specs.{Prelude.option_to_list, List.AllByRecursion}
use Rattle.serde_json.specs.Data.{Data}
use Rattle.formats.specs.{declared.events.Event.Event, Events.event_name}
use Rattle.formats.proofs.Naming.{only_name-event}
use Rattle.texts.specs.declared.command.Command.TheVariants.{Register, Enter}
use Rattle.wcif.{specs.declared.fault.CompetitionFault.CompetitionFault, proofs.Found.found_passes}
use Rattle.wcif.specs.declared.options.{Edition.Edition, Options.Options, SameNames.SameNames}
use Rattle.wcif.specs.declared.options.Edition.TheVariants.{Three, Four}
use Rattle.wcif.specs.Commands.{commands, commands_of, registered, registering, entered, entering}
use Rattle.wcif.specs.Commands.{entering_all, opened, beginning, numbers}
use Rattle.wcif.specs.{Events.event_faults, Faults.faults, Faults.faults_in, Faults.person_faults}
use Rattle.wcif.specs.{Members.list_at, Persons.has_number, Persons.last_number, Told.told}
use Rattle.import_laws.specs.Competitions.{Person, Competition, takes_part, who_take_part}
use Rattle.import_laws.specs.Held.{IsHeld, IsEntrant, IsEvent, IsWithin, event_of}
use Rattle.import_laws.specs.{Laws.GoodFilesAreImported, Spelled.spelled}
use Rattle.import_laws.specs.SetUp.{begin_with, number_of, register, enter_all, open_first, set_up}
use Rattle.import_laws.proofs.Datas.{person_data, id_data, event_data, file_data}
use Rattle.import_laws.proofs.{Events.no_event_faults, Events.opened_is, Importing.imported}
use Rattle.import_laws.proofs.Lists.{told_nothing, find_mapped, map_flat, flat_flat, flat_mapped}
use Rattle.import_laws.proofs.{Numbers.who_at, Numbers.in_order, Numbers.same_each, Reading.holds}
use Rattle.import_laws.proofs.Persons.{listed_items, numbered, named, ids_are, no_person_faults}
use Rattle.wcif.specs.declared.fault.CompetitionFault.TheVariants as of

-- The lists

persons_found : (c : Competition)
    → list_at (codes "persons") (file_data c) ≡ Some (map person_data c.persons)
persons_found c = ap Some (listed_items (map person_data c.persons))

events_found : (c : Competition)
    → list_at (codes "events") (file_data c) ≡ Some (map event_data c.events)
events_found c = ap Some (listed_items (map event_data c.events))

-- Faults

few_events : (c : Competition) → length c.events ≤ 100
    → nat_lt 100 (length (map event_data c.events)) ≡ false
few_events c few =
    let same = length-map c.events event_data in grind (arith, nat_tests)

none_told : (options : Options) (c : Competition) → IsHeld c → faults options (file_data c) ≡ []
unfolding faults
none_told options c h =
    let persons : List Data = map person_data c.persons in
    let events : List Data = map event_data c.events in
    let of_persons : List CompetitionFault = told
    (person_faults options.names events persons) persons in
    let of_events : List CompetitionFault = told (event_faults options.limits persons) events in
    ap (λ o. faults_in options o (list_at (codes "events") (file_data c))) (persons_found c)
    ∙ ap (faults_in options (Some persons)) (events_found c)
    ∙ ap (λ b. cond b (of.TooManyEvents ∷ []) (of_persons ++ of_events)) (few_events c h.few_events)
    ∙ ap (λ said. said ++ of_events) (told_nothing person_data
    (person_faults options.names events persons) c.persons (no_person_faults options.names c h))
    ∙ told_nothing event_data (event_faults options.limits persons) c.events
    (no_event_faults options.limits c h)

-- Commands

registered_is : (how : SameNames) (c : Competition) → IsHeld c → (n : ℕ) → 1 ≤ n
    → registered how (map person_data c.persons) n ≡ map register (who_at (who_take_part c) n)
unfolding registered
registered_is how c h n low =
    rw (find_mapped person_data (has_number n) takes_part (λ q. n == number_of q) (numbered n low)
    c.persons) (step (find (λ q. n == number_of q) (who_take_part c)) refl)
  where
    step : (o : Option Person) → find (λ q. n == number_of q) (who_take_part c) ≡ o
        → map (registering how (map person_data c.persons) n)
        (option_to_list (option_map person_data o)) ≡ map register (option_to_list o)
    step None is = refl
    step (Some q) is =
        ap (λ name. Register n name ∷ []) (named how c h q)
        ∙ ap (λ k. Register k q.name ∷ [])
        (eqb-true n (number_of q) (found_passes (λ p. n == number_of p) (who_take_part c) q is))

ids_entered : (n : ℕ) (es : List Event)
    → flat_map (entering n) (map id_data es) ≡ map (λ e. Enter e n) es
ids_entered n [] = refl
ids_entered n (e ∷ es) = rw ((only_name-event e (event_name e)).1 refl, ids_entered n es) refl

entered_is : (c : Competition) (n : ℕ) → 1 ≤ n
    → entered (map person_data c.persons) n ≡ flat_map enter_all (who_at (who_take_part c) n)
unfolding entered
entered_is c n low =
    rw (find_mapped person_data (has_number n) takes_part (λ q. n == number_of q) (numbered n low)
    c.persons) (step (find (λ q. n == number_of q) (who_take_part c)) refl)
  where
    step : (o : Option Person) → find (λ q. n == number_of q) (who_take_part c) ≡ o
        → flat_map (entering_all n) (option_to_list (option_map person_data o))
        ≡ flat_map enter_all (option_to_list o)
    step None is = refl
    step (Some q) is =
        rw
        (ap (λ ids. flat_map (entering n) (unwrap_or ids [])) (ids_are q) ∙ ids_entered n q.events
        ∙ ap (λ k. map (λ e. Enter e k) q.events)
        (eqb-true n (number_of q) (found_passes (λ p. n == number_of p) (who_take_part c) q is)))
        refl

abbrev HasNumber : Person → Type 0
HasNumber p = IsWithin 1 last_number (number_of p)

have_numbers : (events : List Event) (qs : List Person) → AllByRecursion (IsEntrant events) qs
    → AllByRecursion HasNumber qs
have_numbers events [] h = tt
have_numbers events (q ∷ qs) h =
    let number : number_of q ≡ h.0.number = ap (λ o. unwrap_or o 0) h.0.has_number in
    let low = h.0.number_within.0 in
    let high = h.0.number_within.1 in
    ((omega (arith, number, low), omega (arith, number, high)), have_numbers events qs h.1)

begins : (edition : Edition) → beginning edition ≡ begin_with edition
begins Three = refl
begins Four = refl

commands_are : (options : Options) (c : Competition) → IsHeld c
    → commands_of options (map person_data c.persons) (map event_data c.events)
    ≡ set_up options.edition c
unfolding commands_of
commands_are options c h =
    let persons : List Data = map person_data c.persons in
    let who : List Person = who_take_part c in
    let sorted = in_order last_number who h.own_numbers
    (have_numbers (map event_of c.events) who h.entrants) in
    rw (
      begins options.edition,
      same_each (registered options.names persons) (λ n. map register (who_at who n))
          (registered_is options.names c h) last_number ∙ map_flat register (who_at who) numbers
          ∙ ap (map register) sorted,
      flat_mapped event_data (opened options.limits) open_first (IsEvent c.persons)
          (opened_is options.limits c.persons) c.events h.events,
      same_each (entered persons) (λ n. flat_map enter_all (who_at who n)) (entered_is c)
          last_number ∙ flat_flat enter_all (who_at who) numbers ∙ ap (flat_map enter_all) sorted,
    ) refl

made : (options : Options) (c : Competition) → IsHeld c
    → set_up options.edition c ≡ commands options (file_data c)
unfolding commands
made options c h =
    sym (ap (λ o. commands_of options (unwrap_or o [])
    (unwrap_or (list_at (codes "events") (file_data c)) [])) (persons_found c)
    ∙ ap (λ o. commands_of options (map person_data c.persons) (unwrap_or o [])) (events_found c)
    ∙ commands_are options c h)

pub good_files : GoodFilesAreImported
good_files options c h =
    imported options (spelled c) (file_data c) (set_up options.edition c) (holds c h)
    (none_told options c h) (made options c h)
