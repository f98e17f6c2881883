-- A meet accepts the entries of a person of an import, whose events are held, each once, and then
-- has the person in those rounds.
use Rattle.std.proofs.Common.{◌≡◌, ◌≤◌, ℕ, Bool, true, false, not, cond, List, [], ◌∷◌, Option}
use Rattle.std.proofs.Common.{Some, None, refl, ap, sym, ◌∙◌, arith, nat_lt, length, ◌<◌, ◌||◌}
use Rattle.std.proofs.Common.{◌==◌, ◌++◌, is_some, subst, nat_le, map}
use Rattle.wcif.proofs.Opening.{by_event, is_late, same_itself, not_same, in_time}
use Rattle.std.{specs.Prelude.codes, specs.List.list_any, proofs.Math.Bool.or-false}
use Rattle.std.specs.{Prelude.count_by, Prelude.find, Option.option_and_then, Option.option_map}
use Rattle.std.proofs.lemmas.{Bool.Decides.nat_tests, Slice.Eq.bytes_eq-Decides}
use Rattle.serde_json.specs.Data.{Data}
use Rattle.formats.specs.{declared.events.Event.Event, Events.most_entrants}
use Rattle.formats.specs.Events.{same_event, event_name, event_of_name, event_edition}
use Rattle.formats.proofs.Naming.{only_name-event}
use Rattle.texts.specs.declared.command.Settings.{Settings}
use Rattle.wcif.specs.declared.options.{CumulativeLimits.CumulativeLimits, SameNames.SameNames}
use Rattle.wcif.specs.Events.{event_named, event_faults, enters}
use Rattle.wcif.specs.{Told.place, Told.told, Commands.entering, Commands.entering_all}
use Rattle.wcif.specs.{Told.told_from, Laws.first_settings, Laws.new_round, Laws.newcomer}
use Rattle.wcif.{specs.Faults.person_faults, proofs.Held.holds_event, proofs.Accepting.on_time}
use Rattle.wcif.specs.Persons.{text_of, text_under, has_id, is_id, id_faults, events_faults}
use Rattle.wcif.specs.Persons.{event_ids, most_events, has_number, is_accepted}
use Rattle.wcif.proofs.Found.{unsaid, known, found_free, found_some, found_passes, found_fails}
use Rattle.wcif.proofs.{Found.told_found, Found.each_among, Found.or_this, Accepting.Stands}
use Rattle.wcif.proofs.Accepting.{stands_enter, with_entrant_in, Reaches, reach_one, reach_items}
use Rattle.std.proofs.lemmas.List.{map-append, length-map, Folds.list_any-append}
use Rattle.rounds.specs.Tables.{Table}
use Rattle.texts.specs.declared.command.Command.{Command, TheVariants.Enter}
use Rattle.texts.proofs.{Numerals.bytes_eq-same, EventEditions.enter_spelled}
use Rattle.commands.specs.Accepted.{name_of, refusal, is_registered, round_of, enter_code}
use Rattle.commands.specs.model.Kept.{with_entry}
use Rattle.wcif.specs.declared.fault.PersonFault.TheVariants as fault
use Rattle.rounds.specs.Tables as tables
use Rattle.rounds.specs.declared.fault.EnterFault.TheVariants as enter
use Rattle.texts.specs.declared.answer.Code.TheVariants as code

-- what holds of an id in a registration: the file has its event, and the person is in it once
pub record HoldsId (how : CumulativeLimits) (persons events : List Data) (edition : ℕ)
    (earlier : List Data) (id : Data) : Type 0 where
  pub event : Event
  pub settings : Settings
  pub text : text_of id ≡ event_name event
  pub named : event_of_name (text_of id) ≡ Some event
  pub set : first_settings how events event ≡ Some settings
  pub few : count_by (enters event) persons ≤ most_entrants
  pub early : nat_le (event_edition event) edition ≡ true
  pub new : list_any (is_id (event_name event)) earlier ≡ false

-- the event of an id that an event of the file has
id_held : (how : CumulativeLimits) (persons events : List Data) (edition : ℕ)
    (earlier : List Data) (id : Data) → told_from (event_faults how persons) [] events ≡ []
    → list_any (λ d. is_late edition (event_named d)) events ≡ false
    → list_any (has_id (text_of id)) events ≡ true → list_any (is_id (text_of id)) earlier ≡ false
    → HoldsId how persons events edition earlier id
unfolding event_named
id_held how persons events edition earlier id none early held new =
    let found = found_some (has_id (text_of id)) events held in
    let said = told_found (event_faults how persons) (has_id (text_of id)) [] events found.0 none
    found.1 in
    let event = holds_event how persons said.0 found.0 said.1 in
    let same : text_of id ≡ text_under (codes "id") found.0 =
    (bytes_eq-Decides (text_of id) (text_under (codes "id") found.0)).0
    (found_passes (has_id (text_of id)) events found.0 found.1) in
    let named : event_of_name (text_of id) ≡ Some event.event =
    ap event_of_name same ∙ event.named in
    let text : text_of id ≡ event_name event.event =
    (only_name-event event.event (text_of id)).0 named in
    record {
      event = event.event;
      settings = event.settings;
      text = text;
      named = named;
      set = rw (← text, found.1) event.set;
      few = event.few;
      early =
          in_time edition (event_edition event.event) (sym (ap (is_late edition) event.named)
          ∙ found_fails (has_id (text_of id)) (λ d. is_late edition (event_named d)) events found.0
          found.1 early);
      new = rw (← text) new;
    }

pub holds_id : (how : CumulativeLimits) (persons events : List Data) (edition : ℕ)
    (earlier : List Data) (id : Data) → told_from (event_faults how persons) [] events ≡ []
    → list_any (λ d. is_late edition (event_named d)) events ≡ false
    → id_faults events earlier id ≡ [] → HoldsId how persons events edition earlier id
holds_id how persons events edition earlier id none early free =
    let held = unsaid (not (list_any (has_id (text_of id)) events))
    (fault.NotHeld (place earlier)) [] _ free in
    let new = unsaid _ (fault.EnteredTwice (place earlier)) [] [] held.1 in
    id_held how persons events edition earlier id none early
    (known (list_any (has_id (text_of id)) events) held.0) new.0

has_ids : (events : List Data) (o : Option (List Data)) → events_faults events o ≡ []
    → (ids : List Data) × (o ≡ Some ids) × (told_from (id_faults events) [] ids ≡ [])
unfolding told
has_ids events None none = absurd (cc)
has_ids events (Some ids) none =
    (ids, refl, (unsaid (nat_lt most_events (length ids)) fault.TooManyEvents [] _ none).1)

-- the ids of the accepted person with a number
pub person_ids : (how : SameNames) (persons events : List Data) (n : ℕ) (p : Data)
    → told_from (person_faults how events persons) [] persons ≡ []
    → find (has_number n) persons ≡ Some p
    → (ids : List Data) × (event_ids p ≡ Some ids) × (told_from (id_faults events) [] ids ≡ [])
person_ids how persons events n p none found =
    let free = found_free how persons events n p none found in
    has_ids events (event_ids p) free.1.entries

-- the first rounds of the events, with these entrants in each
abbrev pub rounds_with : CumulativeLimits → List Data → (Event → List ℕ) → Event
    → Option (Settings × Table)
rounds_with how events among e = option_map (new_round e (among e)) (first_settings how events e)

-- and a number in those that these ids name
abbrev pub also : ℕ → List Data → (Event → List ℕ) → Event → List ℕ
also n ids among e = cond (list_any (is_id (event_name e)) ids) (among e ++ n ∷ []) (among e)

entered_none : (n : ℕ) (ns : List ℕ)
    → list_any (tables.has_number n) (map newcomer ns) ≡ list_any (λ m. n == m) ns
entered_none n [] = refl
entered_none n (m ∷ ns) = ap (λ b. n == m || b) (entered_none n ns)

not_full : (ns : List ℕ) → length ns < most_entrants
    → nat_le most_entrants (length (map newcomer ns)) ≡ false
not_full ns room = rw (length-map ns newcomer) (grind (arith, nat_tests))

-- a number that is registered, and not in the round yet, in which there is room
enter_allowed : (now : List Command) (f : Event) (n : ℕ) (s : Settings) (ns : List ℕ)
    (name : List ℕ) → name_of now n ≡ Some name → round_of now f 1 ≡ Some (new_round f ns s)
    → list_any (λ m. n == m) ns ≡ false → length ns < most_entrants → refusal now (Enter f n) ≡ None
enter_allowed now f n s ns name registered opened absent room =
    rw opened (step (is_registered now n) (list_any (tables.has_number n) (map newcomer ns))
    (nat_le most_entrants (length (map newcomer ns))) (ap is_some registered)
    (entered_none n ns ∙ absent) (not_full ns room))
  where
    step : (a i l : Bool) → a ≡ true → i ≡ false → l ≡ false
        → cond (not a) (Some code.UnknownCompetitor) (option_and_then enter_code
        (cond i (Some enter.Already) (cond l (Some enter.Full) None))) ≡ None
    step a i l first second third = rw (first, second, third) refl

entry_added : (f : Event) (n : ℕ) (s : Settings) (ns : List ℕ)
    → with_entry n (new_round f ns s) ≡ new_round f (ns ++ n ∷ []) s
entry_added f n s ns = rw (map-append newcomer ns (n ∷ [])) refl

or_nothing : (a c : Bool) → c ≡ false → (a || (c || false)) ≡ a
or_nothing a c h = rw h (or-false a)

-- one more event was entered
entered_more : (how : CumulativeLimits) (persons events : List Data) (edition n : ℕ)
    (among : Event → List ℕ) (earlier : List Data) (x : Data)
    (held : HoldsId how persons events edition earlier x)
    → with_entrant_in (rounds_with how events (also n earlier among)) held.event n
    ≡ rounds_with how events (also n (earlier ++ x ∷ []) among)
entered_more how persons events edition n among earlier x held =
    by_event (with_entrant_in (rounds_with how events (also n earlier among)) held.event n)
    (rounds_with how events (also n (earlier ++ x ∷ []) among)) held.event (rw (
      same_itself held.event,
      held.set,
      held.new,
      has,
    ) (ap Some (entry_added held.event n held.settings (among held.event))))
    (λ e other.
    rw (
      other,
      list_any-append (is_id (event_name e)) earlier (x ∷ []),
      or_nothing (list_any (is_id (event_name e)) earlier) (is_id (event_name e) x)
          (without e other (is_id (event_name e) x) refl),
    ) refl)
  where
    own : is_id (event_name held.event) x ≡ true
    own = rw held.text (bytes_eq-same (event_name held.event))

    has : list_any (is_id (event_name held.event)) (earlier ++ x ∷ []) ≡ true
    has =
        list_any-append (is_id (event_name held.event)) earlier (x ∷ [])
        ∙ or_this (list_any (is_id (event_name held.event)) earlier)
        (is_id (event_name held.event) x) false own

    without : (e : Event) → same_event e held.event ≡ false → (b : Bool)
        → is_id (event_name e) x ≡ b → b ≡ false
    without e other false is = refl
    without e other true is =
        let text : event_name e ≡ text_of x = (bytes_eq-Decides (event_name e) (text_of x)).0 is in
        absurd (not_same e held.event other
        (sym ((only_name-event e (text_of x)).1 (sym text)) ∙ held.named))

-- a person who may be entered: registered, accepted, with these ids, in no round yet, and there is
-- room in each
pub record MayEnter (persons : List Data) (names : ℕ → Option (List ℕ)) (among : Event → List ℕ)
    (n : ℕ) (p : Data) (ids : List Data) : Type 0 where
  pub name : List ℕ
  pub registered : names n ≡ Some name
  pub accepted : is_accepted p ≡ true
  pub own : event_ids p ≡ Some ids
  pub absent : (e : Event) → list_any (λ m. n == m) (among e) ≡ false
  pub room : (e : Event) → enters e p ≡ true → count_by (enters e) persons ≤ most_entrants
      → length (among e) < most_entrants

abbrev AreIn : CumulativeLimits → List Data → (ℕ → Option (List ℕ)) → ℕ → ℕ → (Event → List ℕ)
    → List Data → List Command → Type 0
AreIn how events names edition n among ids cs =
    Stands cs names edition (rounds_with how events (also n ids among))

-- an id that is none of these
abbrev is_strange : List Data → Data → Bool
is_strange ids x = not (list_any (is_id (text_of x)) ids)

pub enters_by : (e : Event) (p : Data) (ids : List Data) → is_accepted p ≡ true
    → event_ids p ≡ Some ids → enters e p ≡ list_any (is_id (event_name e)) ids
unfolding enters
enters_by e p ids accepted own = rw (accepted, own) refl

enter_one : (how : CumulativeLimits) (persons events : List Data) (names : ℕ → Option (List ℕ))
    (edition n : ℕ) (among : Event → List ℕ) (p : Data) (ids : List Data)
    → told_from (event_faults how persons) [] events ≡ []
    → list_any (λ d. is_late edition (event_named d)) events ≡ false
    → MayEnter persons names among n p ids → (earlier : List Data) (x : Data) (now : List Command)
    → id_faults events earlier x ≡ [] → is_strange ids x ≡ false
    → AreIn how events names edition n among earlier now
    → Reaches now (entering n x) (AreIn how events names edition n among (earlier ++ x ∷ []))
enter_one how persons events names edition n among p ids none early may earlier x now free mine
    stands =
    let held = holds_id how persons events edition earlier x none early free in
    let among_ids : list_any (is_id (event_name held.event)) ids ≡ true =
    rw (← held.text) (known (list_any (is_id (text_of x)) ids) mine) in
    let does : enters held.event p ≡ true =
    enters_by held.event p ids may.accepted may.own ∙ among_ids in
    let opened : round_of now held.event 1
    ≡ Some (new_round held.event (among held.event) held.settings) =
    stands.first held.event ∙ rw (held.set, held.new) refl in
    rw held.named (reach_one now (Enter held.event n)
    (AreIn how events names edition n among (earlier ++ x ∷ [])) (on_time now (Enter held.event n)
    edition stands.held (enter_spelled edition held.event n held.early)
    (enter_allowed now held.event n held.settings (among held.event) may.name
    (stands.people n ∙ may.registered) opened (may.absent held.event)
    (may.room held.event does held.few))) (subst
    (Stands (now ++ Enter held.event n ∷ []) names edition)
    (entered_more how persons events edition n among earlier x held) (stands_enter now names edition
    (rounds_with how events (also n earlier among)) held.event n stands)))

-- all ids of a registration
pub enter_person : (how : CumulativeLimits) (persons events : List Data)
    (names : ℕ → Option (List ℕ)) (edition n : ℕ) (among : Event → List ℕ) (p : Data)
    (ids : List Data) → told_from (event_faults how persons) [] events ≡ []
    → list_any (λ d. is_late edition (event_named d)) events ≡ false
    → MayEnter persons names among n p ids → told_from (id_faults events) [] ids ≡ []
    → (now : List Command) → Stands now names edition (rounds_with how events among)
    → Reaches now (entering_all n p)
    (λ cs. Stands cs names edition (rounds_with how events (also n ids among)))
enter_person how persons events names edition n among p ids none early may free now stands =
    rw may.own (reach_items (id_faults events) (is_strange ids) (entering n)
    (AreIn how events names edition n among)
    (enter_one how persons events names edition n among p ids none early may) [] ids now free
    (each_among (λ x y. is_id (text_of x) y) (λ x. bytes_eq-same (text_of x)) [] ids) stands)
