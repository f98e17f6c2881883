-- A meet accepts all entries of an import, and then has the entrants of the file in each round,
-- each accepted person and each event.
use Rattle.std.proofs.Common.{◌≡◌, ◌≤◌, ◌<◌, ◌+◌, ℕ, Bool, true, false, cond, List, [], ◌∷◌, ◌++◌}
use Rattle.std.proofs.Common.{nat_le, Option, Some, None, refl, ap, sym, ◌∙◌, subst, arith, length}
use Rattle.std.proofs.Common.{filter, append-nil, ◌&&◌, ◌==◌, append_assoc}
use Rattle.std.specs.Prelude.{find, flat_map, count_by}
use Rattle.std.specs.{List.list_any, List.AllByRecursion, Option.option_map, Option.option_to_list}
use Rattle.std.proofs.lemmas.List.{Sums.length-filter, Folds.find-append}
use Rattle.serde_json.specs.Data.{Data}
use Rattle.std.proofs.{Math.Bool.or-false, lemmas.Bool.Decides.nat_tests, Math.Path.fun_ext}
use Rattle.wcif.proofs.Found.{free_number, both_left, found_passes, front_none, back_none}
use Rattle.wcif.proofs.{Found.accepted_free, Found.found_none, Held.holds_event, Held.has_own_id}
use Rattle.wcif.proofs.Counting.{among_passing, count_next, no_more, filter_next, numbers_none}
use Rattle.formats.specs.{declared.events.Event.Event, Events.event_name, Events.most_entrants}
use Rattle.texts.specs.declared.command.Command.{Command}
use Rattle.wcif.specs.declared.options.{CumulativeLimits.CumulativeLimits, SameNames.SameNames}
use Rattle.wcif.specs.Commands.{entered, entering_all, numbers, numbers_to}
use Rattle.wcif.specs.Events.{event_named, event_faults, enters}
use Rattle.wcif.specs.Persons.{is_accepted, has_number, name_as, is_id, event_ids, has_id}
use Rattle.wcif.specs.Persons.{number_of, is_number, last_number}
use Rattle.wcif.specs.{Faults.person_faults, Told.told_from, declared.options.Options.Options}
use Rattle.wcif.specs.Laws.{first_settings, new_round, is_entrant, entrants, IsThere, IsOpen}
use Rattle.wcif.proofs.Opening.{is_late, filed}
use Rattle.wcif.proofs.Accepting.{Reaches, reach_none, reach_numbers, Stands}
use Rattle.wcif.proofs.Entering.{rounds_with, also, MayEnter, enters_by, enter_person, person_ids}
use Rattle.commands.specs.Accepted.{round_of, name_of}

-- the numbers up to k that are registered for an event
abbrev entrants_to : List Data → ℕ → Event → List ℕ
entrants_to persons k e = filter (is_entrant persons e) (numbers_to k)

-- a number is registered for an event where its person is
pub entrant_is : (persons : List Data) (n : ℕ) (e : Event) (o : Option Data)
    → find (has_number n) persons ≡ o
    → is_entrant persons e n ≡ list_any (enters e) (option_to_list o)
entrant_is persons n e o found = ap (λ x. list_any (enters e) (option_to_list x)) found

-- there is room for one of those who are registered, where they are not too many
room_left : (persons : List Data) (k : ℕ) (e : Event) → is_entrant persons e (k + 1) ≡ true
    → count_by (enters e) persons ≤ most_entrants → length (entrants_to persons k e) < most_entrants
room_left persons k e is few =
    let all = no_more persons e (k + 1) in
    let next : count_by (is_entrant persons e) (numbers_to (k + 1)) ≡ count_by
    (is_entrant persons e) (numbers_to k) + 1 = count_next (is_entrant persons e) k
    ∙ ap (λ b. count_by (is_entrant persons e) (numbers_to k) + cond b 1 0) is in
    let size = length-filter (is_entrant persons e) (numbers_to k) in
    omega arith

above : (k : ℕ) → nat_le (k + 1) k ≡ false
above k = grind (arith, nat_tests)

may_enter : (how : SameNames) (persons : List Data) (k : ℕ) (p : Data) (ids : List Data)
    → find (has_number (k + 1)) persons ≡ Some p → event_ids p ≡ Some ids
    → MayEnter persons (filed how persons) (entrants_to persons k) (k + 1) p ids
may_enter how persons k p ids found own = record {
  name = name_as how persons p;
  registered = ap (option_map (name_as how persons)) found;
  accepted = both_left (is_accepted p) _ (found_passes (has_number (k + 1)) persons p found);
  own = own;
  absent = λ e. among_passing (is_entrant persons e) (k + 1) k (omega arith) false (above k);
  room =
      λ e does few. room_left persons k e
      (entrant_is persons (k + 1) e (Some p) found ∙ or-false (enters e p) ∙ does) few;
}

-- the entrants with one number more: where its person has the event among the ids
entrants_more : (persons : List Data) (k : ℕ) (p : Data) (ids : List Data)
    → find (has_number (k + 1)) persons ≡ Some p → event_ids p ≡ Some ids → (e : Event)
    → also (k + 1) ids (entrants_to persons k) e ≡ entrants_to persons (k + 1) e
entrants_more persons k p ids found own e =
    step (list_any (is_id (event_name e)) ids)
    ∙ ap (λ b. entrants_to persons k e ++ cond b ((k + 1) ∷ []) []) (sym
    (entrant_is persons (k + 1) e (Some p) found ∙ or-false (enters e p)
    ∙ enters_by e p ids
    (both_left (is_accepted p) _ (found_passes (has_number (k + 1)) persons p found)) own))
    ∙ sym (filter_next (is_entrant persons e) k)
  where
    step : (b : Bool) → cond b (entrants_to persons k e ++ (k + 1) ∷ []) (entrants_to persons k e)
        ≡ entrants_to persons k e ++ cond b ((k + 1) ∷ []) []
    step true = refl
    step false = sym (append-nil (entrants_to persons k e))

entrants_same : (persons : List Data) (k : ℕ) → find (has_number (k + 1)) persons ≡ None
    → (e : Event) → entrants_to persons k e ≡ entrants_to persons (k + 1) e
entrants_same persons k absent e =
    sym (filter_next (is_entrant persons e) k
    ∙ ap (λ b. entrants_to persons k e ++ cond b ((k + 1) ∷ []) [])
    (entrant_is persons (k + 1) e None absent) ∙ append-nil (entrants_to persons k e))

-- the persons, and among the entrants of each event these numbers
abbrev HaveEntrants : SameNames → CumulativeLimits → List Data → List Data → ℕ → List Command
    → (Event → List ℕ) → Type 0
HaveEntrants how limits persons events edition cs among =
    Stands cs (filed how persons) edition (rounds_with limits events among)

abbrev AreEntered : SameNames → CumulativeLimits → List Data → List Data → ℕ → ℕ → List Command
    → Type 0
AreEntered how limits persons events edition k cs =
    HaveEntrants how limits persons events edition cs (entrants_to persons k)

enter_number : (how : SameNames) (limits : CumulativeLimits) (persons events : List Data)
    (edition : ℕ) → told_from (person_faults how events persons) [] persons ≡ []
    → told_from (event_faults limits persons) [] events ≡ []
    → list_any (λ d. is_late edition (event_named d)) events ≡ false → (k : ℕ) (now : List Command)
    → AreEntered how limits persons events edition k now
    → Reaches now (entered persons (k + 1)) (AreEntered how limits persons events edition (k + 1))
unfolding entered
enter_number how limits persons events edition people none early k now stands =
    step (find (has_number (k + 1)) persons) refl
  where
    step : (o : Option Data) → find (has_number (k + 1)) persons ≡ o
        → Reaches now (flat_map (entering_all (k + 1)) (option_to_list o))
        (AreEntered how limits persons events edition (k + 1))
    step None found =
        reach_none now (AreEntered how limits persons events edition (k + 1))
        (subst (HaveEntrants how limits persons events edition now)
        (fun_ext (entrants_same persons k found)) stands)
    step (Some p) found =
        let own = person_ids how persons events (k + 1) p people found in
        let reached = enter_person limits persons events (filed how persons) edition (k + 1)
        (entrants_to persons k) p own.0 none early (may_enter how persons k p own.0 found own.1)
        own.2 now stands in
        rw (append-nil (entering_all (k + 1) p)) (record {
          accepted = reached.accepted;
          after =
              subst (HaveEntrants how limits persons events edition (now ++ entering_all (k + 1) p))
              (fun_ext (entrants_more persons k p own.0 found own.1)) reached.after;
        })

-- all numbers, after commands that have registered the persons and opened the rounds
pub enters_all : (how : SameNames) (limits : CumulativeLimits) (persons events : List Data)
    (edition : ℕ) (before : List Command)
    → told_from (person_faults how events persons) [] persons ≡ []
    → told_from (event_faults limits persons) [] events ≡ []
    → list_any (λ d. is_late edition (event_named d)) events ≡ false
    → Stands before (filed how persons) edition (rounds_with limits events (λ e. []))
    → Reaches before (flat_map (entered persons) numbers)
    (λ cs. Stands cs (filed how persons) edition (rounds_with limits events (entrants persons)))
enters_all how limits persons events edition before people none early stands =
    reach_numbers (entered persons) (AreEntered how limits persons events edition)
    (enter_number how limits persons events edition people none early) before
    (subst (HaveEntrants how limits persons events edition before)
    (fun_ext (λ e. sym (ap (filter (is_entrant persons e)) numbers_none))) stands) last_number

-- an accepted person is the one who is found by the number
abbrev HasOwnNumber : List Data → Data → Type 0
HasOwnNumber everyone p =
    is_accepted p ≡ true
    → (n : ℕ) × (number_of p ≡ Some n) × (find (has_number n) everyone ≡ Some p)

-- the first of those in front and behind that passes, where none in front does
found_behind : (p : Data → Bool) (earlier : List Data) (x : Data) (xs everyone : List Data)
    → earlier ++ x ∷ xs ≡ everyone → list_any p earlier ≡ false → p x ≡ true
    → find p everyone ≡ Some x
found_behind p earlier x xs everyone all none passes =
    rw (← all, find-append p earlier (x ∷ xs), found_none p earlier none, passes) refl

own_number : (how : SameNames) (events everyone earlier xs : List Data) (x : Data)
    → earlier ++ x ∷ xs ≡ everyone → person_faults how events everyone earlier x ≡ []
    → HasOwnNumber everyone x
own_number how events everyone earlier xs x all none accepted =
    let said = accepted_free how events everyone earlier x none accepted in
    let free = free_number earlier (number_of x) said.number in (
      free.0,
      free.1,
      found_behind (has_number free.0) earlier x xs everyone all free.2
          (ap (λ b. b && is_number free.0 (number_of x)) accepted
          ∙ ap (is_number free.0) free.1 ∙ is_itself free.0),
    )
  where
    is_itself : (n : ℕ) → (n == n) ≡ true
    is_itself n = grind (arith, nat_tests)

pub own_numbers : (how : SameNames) (events everyone earlier xs : List Data)
    → earlier ++ xs ≡ everyone → told_from (person_faults how events everyone) earlier xs ≡ []
    → AllByRecursion (HasOwnNumber everyone) xs
own_numbers how events everyone earlier [] all none = tt
own_numbers how events everyone earlier (x ∷ xs) all none = (
  own_number how events everyone earlier xs x all
      (front_none (person_faults how events everyone earlier x) _ none),
  own_numbers how events everyone (earlier ++ x ∷ []) xs
      (append_assoc earlier (x ∷ []) xs ∙ all)
      (back_none (person_faults how events everyone earlier x) _ none),
)

-- all of these persons are there
pub all_there : (options : Options) (persons : List Data) (cs : List Command)
    → ((n : ℕ) → name_of cs n ≡ filed options.names persons n)
    → ((n : ℕ) (p : Data) → find (has_number n) persons ≡ Some p → (1 ≤ n) × (n ≤ last_number))
    → (xs : List Data) → AllByRecursion (HasOwnNumber persons) xs
    → AllByRecursion (IsThere options persons cs) xs
all_there options persons cs people range [] own = tt
all_there options persons cs people range (x ∷ xs) own =
    (there own.0, all_there options persons cs people range xs own.1)
  where
    there : HasOwnNumber persons x → IsThere options persons cs x
    there own accepted =
        let found = own accepted in
        let low = range found.0 x found.2 in
        let most : found.0 ≤ last_number = low.1 in
        let within : nat_le found.0 last_number ≡ true = grind (arith, nat_tests) in (
          found.0,
          found.1,
          people found.0 ∙ ap (option_map (name_as options.names persons)) found.2,
          λ e.
              among_passing (is_entrant persons e) found.0 last_number low.0 true within
              ∙ entrant_is persons found.0 e (Some x) found.2 ∙ or-false (enters e x),
        )

-- all of these events are open
pub all_open : (options : Options) (persons events : List Data) (cs : List Command)
    → ((e : Event) → round_of cs e 1
    ≡ option_map (new_round e (entrants persons e)) (first_settings options.limits events e))
    → (earlier ds : List Data) → earlier ++ ds ≡ events
    → told_from (event_faults options.limits persons) earlier ds ≡ []
    → AllByRecursion (IsOpen options persons cs) ds
all_open options persons events cs rounds earlier [] all none = tt
all_open options persons events cs rounds earlier (d ∷ ds) all none =
    let held = holds_event options.limits persons earlier d
    (front_none (event_faults options.limits persons earlier d) _ none) in
    let found : find (has_id (event_name held.event)) events ≡ Some d =
    found_behind (has_id (event_name held.event)) earlier d ds events all held.new
    (has_own_id d held.event held.named) in (
      (
        held.event,
        held.settings,
        held.named,
        held.set,
        rw (rounds held.event, found, held.set) refl,
      ),
      all_open options persons events cs rounds (earlier ++ d ∷ []) ds
          (append_assoc earlier (d ∷ []) ds ∙ all)
          (back_none (event_faults options.limits persons earlier d) _ none),
    )
