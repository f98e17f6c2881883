-- A meet accepts the openings of an import, and then has the first rounds of the file; and the
-- registrations, and then has the people of the file.
use Rattle.std.proofs.Common.{◌≡◌, ◌&&◌, ℕ, Bool, true, false, not, cond, List, [], ◌∷◌, ◌++◌}
use Rattle.std.proofs.Common.{Option, Some, None, is_some, refl, ap, sym, ◌∙◌, subst, arith, nat_le}
use Rattle.std.proofs.Common.{nat_lt, ◌≤◌, ◌<◌, ◌+◌, ◌==◌, map, eqb-true}
use Rattle.std.specs.{Prelude.find, Prelude.flat_map, Prelude.bytes_eq, List.list_any}
use Rattle.std.specs.Option.{option_or, option_map, option_to_list, option_map_or}
use Rattle.std.proofs.lemmas.Bool.{false≢true}
use Rattle.std.proofs.{Math.Bool.and-false, Math.Path.fun_ext, lemmas.List.Folds.find-append}
use Rattle.std.proofs.lemmas.{Slice.Eq.bytes_eq-Decides, Bool.Decides.nat_tests}
use Rattle.serde_json.specs.Data.{Data}
use Rattle.formats.{specs.declared.events.Event.Event, proofs.SameEvent.same_event-equal}
use Rattle.formats.specs.Events.{event_name, event_edition, same_event, unit_of, is_allowed}
use Rattle.rounds.specs.Tables.{Table}
use Rattle.texts.specs.{Fields.round_id, Editions.is_spelled_in, Table.rows, Names.is_clear_name}
use Rattle.texts.specs.declared.command.{Command.Command, Settings.Settings}
use Rattle.texts.specs.declared.command.Command.TheVariants.{Open, Register}
use Rattle.commands.specs.Accepted.{refusal, round_of, is_cutoff, is_limit, leads_on, is_called}
use Rattle.commands.specs.Accepted.{is_registered, is_taken, names_other}
use Rattle.commands.proofs.Lookups.{or_none}
use Rattle.texts.{proofs.EventEditions.open_spelled, specs.Reading.told}
use Rattle.wcif.specs.declared.options.{CumulativeLimits.CumulativeLimits, SameNames.SameNames}
use Rattle.wcif.specs.Commands.{opened, registered, registering, numbers}
use Rattle.wcif.{specs.Events.event_named, specs.Events.event_faults, proofs.Found.found_none}
use Rattle.wcif.proofs.Held.{MayHave, HoldsEvent, holds_event, has_own_id, named_by_id}
use Rattle.wcif.specs.{Laws.first_settings, Laws.new_round, Told.told_from}
use Rattle.wcif.specs.Persons.{has_id, has_number, name_as, last_number}
use Rattle.wcif.proofs.Accepting.{Reaches, reach_items, stands_open, reach_numbers, stands_register}
use Rattle.wcif.proofs.Accepting.{reach_one, on_time, Stands, with_round, reach_none, reach_else}
use Rattle.texts.specs.declared.answer.Code.TheVariants as code

-- a later edition than this one has the event
abbrev pub is_late : ℕ → Option Event → Bool
is_late edition None = false
is_late edition (Some e) = nat_lt edition (event_edition e)

-- the first rounds of these events are open, with nobody in them
abbrev pub rounds_open : CumulativeLimits → List Data → Event → Option (Settings × Table)
rounds_open how events e = option_map (new_round e []) (first_settings how events e)

abbrev AreOpen : CumulativeLimits → (ℕ → Option (List ℕ)) → ℕ → List Data → List Command → Type 0
AreOpen how names edition earlier cs = Stands cs names edition (rounds_open how earlier)

-- a first round that is not open yet, with settings that its event may have
open_allowed : (cs : List Command) (e : Event) (s : Settings) → round_of cs e 1 ≡ None
    → MayHave e s → refusal cs (Open (round_id e 1) s) ≡ None
open_allowed cs e s new may =
    step (is_some (round_of cs e 1)) (not (leads_on (round_of cs e 0))) (is_allowed e s.format)
    (is_cutoff (unit_of e) s.format s.cutoff) (is_limit (unit_of e) s.limit)
    (ap is_some new) may.format may.cutoff may.limit
  where
    step : (a n f c l : Bool) → a ≡ false → f ≡ true → c ≡ true → l ≡ true
        → cond a (Some code.RoundOpen) (cond (nat_lt 1 1 && n) (Some code.RoundUnknown)
        (cond (not f) (Some code.FormatNotAllowed) (cond (not c) (Some code.CutoffNotAllowed)
        (cond (not l) (Some code.LimitNotAllowed) None)))) ≡ None
    step a n f c l first second third fourth = rw (first, second, third, fourth) refl

pub same_itself : (e : Event) → same_event e e ≡ true
same_itself e = grind (arith, nat_tests)

-- what are one at an event and at every other one are one
pub by_event : {X : Type 0} (f g : Event → X) (a : Event) → f a ≡ g a
    → ((e : Event) → same_event e a ≡ false → f e ≡ g e) → f ≡ g
by_event f g a here other = fun_ext (λ e. step e (same_event e a) refl)
  where
    step : (e : Event) (b : Bool) → same_event e a ≡ b → f e ≡ g e
    step e false is = other e is
    step e true is =
        let same : e ≡ a = same_event-equal e a is in ap f same ∙ here ∙ ap g (sym same)

-- no other event is the same one
pub not_same : (e f : Event) → same_event e f ≡ false → Some e ≡ Some f → ⊥
not_same e f other found =
    let same : e ≡ f = cc in
    false≢true (sym other ∙ ap (λ x. same_event x f) same ∙ same_itself f)

pub in_time : (edition n : ℕ) → nat_lt edition n ≡ false → nat_le n edition ≡ true
in_time edition n h = grind (arith, nat_tests)

-- the first rounds of the events in front and of one more
more_open : (how : CumulativeLimits) (persons earlier : List Data) (d : Data)
    (held : HoldsEvent how persons earlier d)
    → with_round (rounds_open how earlier) held.event held.settings
    ≡ rounds_open how (earlier ++ d ∷ [])
more_open how persons earlier d held =
    by_event (with_round (rounds_open how earlier) held.event held.settings)
    (rounds_open how (earlier ++ d ∷ [])) held.event (rw (
      find-append (has_id (event_name held.event)) earlier (d ∷ []),
      found_none (has_id (event_name held.event)) earlier held.new,
      same_itself held.event,
      has_own_id d held.event held.named,
      held.set,
    ) refl)
    (λ e other.
    rw (
      other,
      or_none (rounds_open how earlier e),
      find-append (has_id (event_name e)) earlier (d ∷ []),
      without e other (has_id (event_name e) d) refl,
      or_none (find (has_id (event_name e)) earlier),
    ) refl)
  where
    without : (e : Event) → same_event e held.event ≡ false → (b : Bool)
        → has_id (event_name e) d ≡ b → b ≡ false
    without e other false has = refl
    without e other true has =
        absurd (not_same e held.event other (sym (named_by_id d e has) ∙ held.named))

pub opened_is : (how : CumulativeLimits) (persons earlier : List Data) (d : Data)
    (held : HoldsEvent how persons earlier d)
    → opened how d ≡ Open (round_id held.event 1) held.settings ∷ []
unfolding opened
opened_is how persons earlier d held = rw (held.named, held.set) refl

open_one : (how : CumulativeLimits) (persons : List Data) (names : ℕ → Option (List ℕ))
    (edition : ℕ) (earlier : List Data) (d : Data) (now : List Command)
    → event_faults how persons earlier d ≡ [] → is_late edition (event_named d) ≡ false
    → AreOpen how names edition earlier now
    → Reaches now (opened how d) (AreOpen how names edition (earlier ++ d ∷ []))
open_one how persons names edition earlier d now none early stands =
    let held = holds_event how persons earlier d none in
    let absent : round_of now held.event 1 ≡ None = stands.first held.event
    ∙ rw (found_none (has_id (event_name held.event)) earlier held.new) refl in
    let not_late : nat_lt edition (event_edition held.event) ≡ false =
    sym (ap (is_late edition) held.named) ∙ early in
    rw (opened_is how persons earlier d held) (reach_one now
    (Open (round_id held.event 1) held.settings) (AreOpen how names edition (earlier ++ d ∷ []))
    (on_time now (Open (round_id held.event 1) held.settings) edition stands.held
    (open_spelled edition (round_id held.event 1) held.settings
    (in_time edition (event_edition held.event) not_late))
    (open_allowed now held.event held.settings absent held.may)) (subst
    (Stands (now ++ Open (round_id held.event 1) held.settings ∷ []) names edition)
    (more_open how persons earlier d held)
    (stands_open now names edition (rounds_open how earlier) held.event held.settings stands)))

-- all events, after commands that open no round
pub opens : (how : CumulativeLimits) (persons events : List Data) (names : ℕ → Option (List ℕ))
    (edition : ℕ) (before : List Command) → told_from (event_faults how persons) [] events ≡ []
    → list_any (λ d. is_late edition (event_named d)) events ≡ false
    → Stands before names edition (λ e. None) → Reaches before (flat_map (opened how) events)
    (λ cs. Stands cs names edition (rounds_open how events))
opens how persons events names edition before none early stands =
    reach_items (event_faults how persons) (λ d. is_late edition (event_named d)) (opened how)
    (AreOpen how names edition) (open_one how persons names edition) [] events before none early
    stands

-- no two numbers have one name, each is in the range, and each name is one of editions 3 and 4
pub record AreKnown (how : SameNames) (persons : List Data) : Type 0 where
  pub apart : (m n : ℕ) (q p : Data)
      → find (has_number m) persons ≡ Some q → find (has_number n) persons ≡ Some p
      → name_as how persons q ≡ name_as how persons p → m ≡ n
  pub ranged : (n : ℕ) (p : Data) → find (has_number n) persons ≡ Some p
      → (1 ≤ n) × (n ≤ last_number)
  pub named : (n : ℕ) (p : Data) → find (has_number n) persons ≡ Some p
      → is_clear_name (name_as how persons p) ≡ true

-- the name of a number in the file
abbrev pub filed : SameNames → List Data → ℕ → Option (List ℕ)
filed how persons n = option_map (name_as how persons) (find (has_number n) persons)

abbrev pub nowhere : Event → Option (Settings × Table)
nowhere e = None

-- the names of the numbers up to k
abbrev filed_to : SameNames → List Data → ℕ → ℕ → Option (List ℕ)
filed_to how persons k n = cond (nat_le n k) (filed how persons n) None

-- the numbers up to k are registered
abbrev Fresh : SameNames → List Data → ℕ → ℕ → List Command → Type 0
Fresh how persons edition k before = Stands before (filed_to how persons k) edition nowhere

-- one number more, whether there is a person with it or not
filed_more : (how : SameNames) (persons : List Data) (k : ℕ) (next : Option (List ℕ))
    → filed how persons (k + 1) ≡ next
    → (λ m. option_or (filed_to how persons k m) (cond (k + 1 == m) next None))
    ≡ filed_to how persons (k + 1)
filed_more how persons k next same =
    fun_ext (λ m. step m (nat_le m k) (k + 1 == m) (nat_le m (k + 1)) refl refl refl)
  where
    step : (m : ℕ) (a b c : Bool) → nat_le m k ≡ a → (k + 1 == m) ≡ b → nat_le m (k + 1) ≡ c
        → option_or (cond a (filed how persons m) None) (cond b next None)
        ≡ cond c (filed how persons m) None
    step m true false true low is high = or_none (filed how persons m)
    step m false true true low is high =
        sym same ∙ ap (filed how persons) (eqb-true (k + 1) m is)
    step m false false false low is high = refl
    step m _ _ _ low is high = absurd (grind (arith, nat_tests))

-- no other number has the name, so no command registers one that has
none_other : (cs ds : List Command) (n : ℕ) (name : List ℕ)
    → ((m : ℕ) → (not (m == n) && is_called cs m name) ≡ false)
    → list_any (names_other cs n name) ds ≡ false
none_other cs [] n name none = refl
none_other cs (Register m given ∷ ds) n name none = rw (none m) (none_other cs ds n name none)
none_other cs (_ ∷ ds) n name none = none_other cs ds n name none

-- the name of a person is free for the person's number, whoever of the others is registered
untaken : (how : SameNames) (persons : List Data) (edition k : ℕ) (before : List Command)
    (n : ℕ) (p : Data) → AreKnown how persons → Fresh how persons edition k before
    → find (has_number n) persons ≡ Some p → is_taken before n (name_as how persons p) ≡ false
untaken how persons edition k before n p known fresh found =
    none_other before before n name nobody
  where
    name : List ℕ
    name = name_as how persons p

    itself : (m : ℕ) → (m == m) ≡ true
    itself m = grind (arith, nat_tests)

    alike : (m : ℕ) (q : Data) → find (has_number m) persons ≡ Some q → (a b : Bool)
        → (m == n) ≡ a → bytes_eq name (name_as how persons q) ≡ b → (not a && b) ≡ false
    alike m q there true b number text = refl
    alike m q there false false number text = refl
    alike m q there false true number text =
        let names : name ≡ name_as how persons q =
        (bytes_eq-Decides name (name_as how persons q)).0 text in
        let one : n ≡ m = known.apart n m p q found there names in
        absurd (false≢true (sym number ∙ ap (λ (x : ℕ). m == x) one ∙ itself m))

    step : (m : ℕ) (b : Bool) (o : Option Data) → find (has_number m) persons ≡ o
        → (not (m == n) && option_map_or (bytes_eq name)
        (cond b (option_map (name_as how persons) o) None) false) ≡ false
    step m false o there = and-false (not (m == n))
    step m true None there = and-false (not (m == n))
    step m true (Some q) there =
        alike m q there (m == n) (bytes_eq name (name_as how persons q)) refl refl

    nobody : (m : ℕ) → (not (m == n) && is_called before m name) ≡ false
    nobody m = rw (fresh.people m) (step m (nat_le m k) (find (has_number m) persons) refl)

-- a number that nobody has
later : (how : SameNames) (persons : List Data) (edition k : ℕ) (before : List Command)
    → Fresh how persons edition k before → find (has_number (k + 1)) persons ≡ None
    → Fresh how persons edition (k + 1) before
later how persons edition k before fresh absent =
    subst (λ (names : ℕ → Option (List ℕ)). Stands before names edition nowhere)
    (fun_ext (λ (m : ℕ). sym (none m (k + 1 == m)))
    ∙ filed_more how persons k None (ap (option_map (name_as how persons)) absent)) fresh
  where
    none : (m : ℕ) (b : Bool)
        → option_or (filed_to how persons k m) (cond b None None) ≡ filed_to how persons k m
    none m true = or_none (filed_to how persons k m)
    none m false = or_none (filed_to how persons k m)

-- after one more registration
registered_fresh : (how : SameNames) (persons : List Data) (edition k : ℕ) (before : List Command)
    (q : Data) → Fresh how persons edition k before → find (has_number (k + 1)) persons ≡ Some q
    → Fresh how persons edition (k + 1) (before ++ Register (k + 1) (name_as how persons q) ∷ [])
registered_fresh how persons edition k before q fresh found =
    subst (λ (names : ℕ → Option (List ℕ)). Stands
    (before ++ Register (k + 1) (name_as how persons q) ∷ []) names edition nowhere)
    (filed_more how persons k (Some (name_as how persons q))
    (ap (option_map (name_as how persons)) found)) (stands_register before (filed_to how persons k)
    edition nowhere (k + 1) (name_as how persons q) fresh)

-- a fresh number and name are accepted
allowed : (how : SameNames) (persons : List Data) (edition k : ℕ) (before : List Command) (q : Data)
    → AreKnown how persons → Fresh how persons edition k before
    → find (has_number (k + 1)) persons ≡ Some q
    → refusal before (Register (k + 1) (name_as how persons q)) ≡ None
allowed how persons edition k before q known fresh found =
    let unnamed : filed_to how persons k (k + 1) ≡ None = above_none (nat_le (k + 1) k) refl in
    let free : is_taken before (k + 1) (name_as how persons q) ≡ false =
    untaken how persons edition k before (k + 1) q known fresh found in
    step (is_registered before (k + 1)) (is_taken before (k + 1) (name_as how persons q))
    (ap is_some (fresh.people (k + 1) ∙ unnamed)) free
  where
    above_none : (b : Bool) → nat_le (k + 1) k ≡ b → cond b (filed how persons (k + 1)) None ≡ None
    above_none false is = refl
    above_none true is = absurd (grind (arith, nat_tests))

    step : (a b : Bool) → a ≡ false → b ≡ false
        → cond a (Some code.Already) (cond b (Some code.NameTaken) None) ≡ None
    step a b first second = rw (first, second) refl

-- a name of editions 3 and 4 is spelled in them
spelled : (edition n : ℕ) (name : List ℕ) → 3 ≤ edition → is_clear_name name ≡ true
    → is_spelled_in edition (told None (Register n name)) ≡ true
unfolding rows
spelled edition n name held named =
    let low : nat_le 1 edition ≡ true = grind (arith, nat_tests, held) in
    let high : nat_le 3 edition ≡ true = grind (arith, nat_tests, held) in
    rw (high, named, low) refl

register_one : (how : SameNames) (persons : List Data) (edition : ℕ) → AreKnown how persons
    → 3 ≤ edition → (k : ℕ) (now : List Command) → Fresh how persons edition k now
    → Reaches now (registered how persons (k + 1)) (Fresh how persons edition (k + 1))
unfolding registered
register_one how persons edition known held k now fresh =
    step (find (has_number (k + 1)) persons) refl
  where
    step : (o : Option Data) → find (has_number (k + 1)) persons ≡ o
        → Reaches now (map (registering how persons (k + 1)) (option_to_list o))
        (Fresh how persons edition (k + 1))
    step None found =
        reach_none now (Fresh how persons edition (k + 1))
        (later how persons edition k now fresh found)
    step (Some q) found =
        reach_one now (Register (k + 1) (name_as how persons q)) (Fresh how persons edition (k + 1))
        (on_time now (Register (k + 1) (name_as how persons q)) edition fresh.held
        (spelled edition (k + 1) (name_as how persons q) held (known.named (k + 1) q found))
        (allowed how persons edition k now q known fresh found))
        (registered_fresh how persons edition k now q fresh found)

-- all numbers, after commands that register nobody
pub registers : (how : SameNames) (persons : List Data) (edition : ℕ) → AreKnown how persons
    → 3 ≤ edition → (before : List Command) → Stands before (λ n. None) edition nowhere
    → Reaches before (flat_map (registered how persons) numbers)
    (λ cs. Stands cs (filed how persons) edition nowhere)
registers how persons edition known held before stands =
    reach_else before (flat_map (registered how persons) numbers)
    (Fresh how persons edition last_number) (λ cs. Stands cs (filed how persons) edition nowhere)
    (λ cs. subst (λ (names : ℕ → Option (List ℕ)). Stands cs names edition nowhere)
    (fun_ext (λ n. whole n (nat_le n last_number) refl))) (reach_numbers (registered how persons)
    (Fresh how persons edition) (register_one how persons edition known held) before
    (subst (λ (names : ℕ → Option (List ℕ)). Stands before names edition nowhere)
    (fun_ext (λ n. start n (nat_le n 0) refl)) stands) last_number)
  where
    outside : (n : ℕ) → ((p : Data) → find (has_number n) persons ≡ Some p → ⊥)
        → (o : Option Data) → find (has_number n) persons ≡ o
        → None ≡ option_map (name_as how persons) o
    outside n never None found = refl
    outside n never (Some p) found = absurd (never p found)

    whole : (n : ℕ) (b : Bool) → nat_le n last_number ≡ b
        → cond b (filed how persons n) None ≡ filed how persons n
    whole n true is = refl
    whole n false is =
        outside n (λ p found.
        let low : n ≤ last_number = (known.ranged n p found).1 in
        let high : last_number < n = grind (arith, nat_tests) in
        omega arith) (find (has_number n) persons) refl

    start : (n : ℕ) (b : Bool) → nat_le n 0 ≡ b → None ≡ cond b (filed how persons n) None
    start n true is =
        outside n (λ p found.
        let low : 1 ≤ n = (known.ranged n p found).0 in
        let high : n ≤ 0 = grind (arith, nat_tests) in
        omega arith) (find (has_number n) persons) refl
    start n false is = refl
