-- The kept rounds and competitors, and what one more command makes of them.
use Rattle.std.proofs.Common.{◌≡◌, ℕ, ◌<◌, Bool, true, false, ◌&&◌, ◌==◌, cond, is_some, zero, suc}
use Rattle.std.proofs.Common.{◌-◌, ◌≤◌, ◌≢◌, List, [], ◌∷◌, ◌++◌, length, set, get_or, find, drop}
use Rattle.std.proofs.Common.{position, slice_get, Option, Some, None, option_map, MatchOption, not}
use Rattle.std.proofs.Common.{filter, refl, sym, ap, ◌∙◌, arith, eqb-true}
use Rattle.std.specs.{Global.Vec, List.position_or_len, List.list_any}
use Rattle.std.specs.Option.{option_or, option_map_or, option_and_then}
use Rattle.std.proofs.lemmas.List.Folds.{find-set, find_past, find-append}
use Rattle.std.proofs.lemmas.{List.get_or-set_same, List.get_or-set_other, Bool.Decides.nat_tests}
use Rattle.std.proofs.lemmas.Option.{slice_get_within, get_or_from_slice_get}
use Rattle.std.proofs.lemmas.Bool.{false≢true}
use Rattle.cube.specs.declared.moves.Move.{Move}
use Rattle.formats.specs.declared.events.Event.{Event}
use Rattle.formats.specs.Events.{event_number, same_event, unit_of}
use Rattle.texts.specs.declared.command.{Entered.Entered, Settings.Settings}
use Rattle.commands.specs.Accepted.{is_solution, rescramble_refusal, has_solved, is_moves}
use Rattle.commands.specs.model.Solved.{is_noted, KeepsNotes}
use Rattle.commands.proofs.{Places.IsFound, Places.found_at, Lookups.none_either}
use Rattle.commands.specs.declared.kept_rounds.KeptRound.{KeptRound}
use Rattle.rounds.specs.Tables.{Table, withdrawn, standings}
use Rattle.commands.specs.model.Kept.{is_round, kept_value, kept_round, place_in, kept_scramble}
use Rattle.commands.specs.model.Kept.{waiting_in, kept_waiting, first_of_all, with_exit, seen_in}
use Rattle.commands.specs.model.Kept.{IsKeptAt, ChangesRound, ExchangesRound, AddsRound}
use Rattle.commands.specs.model.Kept.{AddsScramble, EntersRound, solved_in, kept_solved}
use Rattle.texts.specs.declared.answer.Code.TheVariants as code

-- a round is the same for events of one number
same_round : (e f : Event) (r s : ℕ) (x : KeptRound) → (same_event f e && s == r) ≡ true
    → is_round f s x ≡ is_round e r x
same_round e f r s x h =
    let event : event_number f ≡ event_number e = eqb-true _ _ (grind arith) in
    let round : s ≡ r = eqb-true _ _ (grind arith) in
    rw (event, round) refl

other_round : (e f : Event) (r s : ℕ) (x : KeptRound) → is_round e r x ≡ true
    → (same_event f e && s == r) ≡ false → is_round f s x ≡ false
other_round e f r s x here h = grind (arith, nat_tests)

find_same : {X : Type 0} (p q : X → Bool) → ((x : X) → p x ≡ q x) → (xs : List X)
    → find p xs ≡ find q xs
find_same p q h [] = refl
find_same p q h (x ∷ xs) = rw (h x, find_same p q h xs) refl

-- the changed round is the one of its event and number, and no other
changed_round : (e f : Event) (r s : ℕ) (xs : List KeptRound) (i : ℕ) (old new : KeptRound)
    → i ≡ position_or_len (is_round e r) xs → i < length xs → slice_get xs i ≡ Some old
    → is_round e r old ≡ true → new.id.event ≡ old.id.event → new.id.round ≡ old.id.round
    → find (is_round f s) (set xs i new)
    ≡ cond (same_event f e && s == r) (Some new) (find (is_round f s) xs)
changed_round e f r s xs i old new at within is here event round =
    step (same_event f e && s == r) refl
  where
    passes : is_round e r new ≡ true
    passes = rw (event, round) here

    step : (b : Bool) → (same_event f e && s == r) ≡ b
        → find (is_round f s) (set xs i new) ≡ cond b (Some new) (find (is_round f s) xs)
    step true h =
        find_same (is_round f s) (is_round e r) (λ x. same_round e f r s x h) (set xs i new)
        ∙ find-set (is_round e r) xs i new at within passes
    step false h =
        let before : is_round f s old ≡ false = other_round e f r s old here h in
        let after : is_round f s new ≡ false = rw (event, round) before in
        find_past (is_round f s) xs i new old (rw (get_or_from_slice_get xs i old old is) before)
        after

-- what a position says of rounds
pub kept_at : (e : Event) (r : ℕ) (xs : List KeptRound)
    → MatchOption (position (is_round e r) xs) (kept_round e r xs ≡ None) (λ i. IsKeptAt xs e r i)
kept_at e r xs = tell (position p xs) (found_at p xs)
  where
    p : KeptRound → Bool
    p x = is_round e r x

    tell : (o : Option ℕ) → MatchOption o (find p xs ≡ None) (IsFound p xs)
        → MatchOption o (kept_round e r xs ≡ None) (λ i. IsKeptAt xs e r i)
    tell None h = ap (option_map kept_value) h
    tell (Some i) h =
        let within : i < length xs = slice_get_within xs i h.item h.at in
        let same : (d : KeptRound)
        → get_or xs i d ≡ h.item = λ d. get_or_from_slice_get xs i h.item d h.at in
        record {
          within = within;
          there = ap (λ o. is_some (option_map kept_value o)) h.found;
          found = λ d. rw (same d) h.found;
          kept = λ d. rw (same d) (ap (option_map kept_value) h.found);
          places = λ d k. rw (same d) (ap (option_and_then (place_in k)) h.found);
          changed =
              λ d x event round f s.
              changed_round e f r s xs i h.item x h.first within h.at h.passes
              (event ∙ ap (λ (y : KeptRound). y.id.event) (same d))
              (round ∙ ap (λ (y : KeptRound). y.id.round) (same d));
        }

-- a test within another
pub nested : {X : Type 0} (a b : Bool) (x y : X) → cond a (cond b x y) y ≡ cond (a && b) x y
nested true b x y = refl
nested false b x y = refl

-- the round of an event and a number is found, and another one in its place in the other list
pub record IsSetIn (e : Event) (r : ℕ) (old new : KeptRound) (xs ys : List KeptRound) : Type 0 where
  pub was : find (is_round e r) xs ≡ Some old
  pub now : (f : Event) (s : ℕ) → find (is_round f s) ys
      ≡ cond (same_event f e && s == r) (Some new) (find (is_round f s) xs)

pub set_in : (xs : List KeptRound) (e : Event) (r i : ℕ) (old new : KeptRound) → IsKeptAt xs e r i
    → old ≡ get_or xs i old → new.id.event ≡ old.id.event → new.id.round ≡ old.id.round
    → IsSetIn e r old new xs (set xs i new)
set_in xs e r i old new at there event round = record {
  was = at.found old ∙ ap Some (sym there);
  now =
      at.changed old new (event ∙ ap (λ (y : KeptRound). y.id.event) there)
      (round ∙ ap (λ (y : KeptRound). y.id.round) there);
}

module _ (e : Event) (r : ℕ) (old new : KeptRound) (xs ys : List KeptRound)
    (sets : IsSetIn e r old new xs ys) where
  -- a round is found alike for events of one number
  was_here : (f : Event) (s : ℕ) → (same_event f e && s == r) ≡ true
      → find (is_round f s) xs ≡ Some old
  was_here f s h =
      find_same (is_round f s) (is_round e r) (λ x. same_round e f r s x h) xs ∙ sets.was

  -- what is asked of the round changes as it does between the two, and of no other round
  pub told : {X : Type 0} (asked : Option KeptRound → X) (change : X → X)
      → asked (Some new) ≡ change (asked (Some old)) → (f : Event) (s : ℕ)
      → asked (find (is_round f s) ys)
      ≡ cond (same_event f e && s == r) (change (asked (find (is_round f s) xs)))
      (asked (find (is_round f s) xs))
  told asked change is f s =
      ap asked (sets.now f s) ∙ step (same_event f e && s == r) refl
    where
      step : (b : Bool) → (same_event f e && s == r) ≡ b
          → asked (cond b (Some new) (find (is_round f s) xs))
          ≡ cond b (change (asked (find (is_round f s) xs))) (asked (find (is_round f s) xs))
      step true h = is ∙ ap (λ (o : Option KeptRound). change (asked o)) (sym (was_here f s h))
      step false h = refl

  -- what is the same of the two is the same of each round
  pub alike : {X : Type 0} (asked : Option KeptRound → X) → asked (Some new) ≡ asked (Some old)
      → (f : Event) (s : ℕ) → asked (find (is_round f s) ys) ≡ asked (find (is_round f s) xs)
  alike asked is f s = told asked (λ x. x) is f s ∙ step (same_event f e && s == r)
    where
      step : (b : Bool) → cond b (asked (find (is_round f s) xs)) (asked (find (is_round f s) xs))
          ≡ asked (find (is_round f s) xs)
      step true = refl
      step false = refl

-- the place of an attempt's scramble, by the places of a round
abbrev pub slot : ℕ → List (Option ℕ) → Option ℕ
slot k places = get_or places (k - 1) None

-- what a change of a round keeps: the scrambles, those who wait and what was seen of the one before
pub record KeepsBeside (old new : KeptRound) : Type 0 where
  pub event : new.id.event ≡ old.id.event
  pub round : new.id.round ≡ old.id.round
  pub scrambles : new.scrambles ≡ old.scrambles
  pub waiting : waiting_in new ≡ waiting_in old
  pub seen : seen_in new ≡ seen_in old

-- a change of the round at a place changes that round alone
pub round_changed_to : (xs : List KeptRound) (e : Event) (r i : ℕ) (old new : KeptRound)
    (change : Settings × Table → Settings × Table)
    → IsKeptAt xs e r i → old ≡ get_or xs i old → KeepsBeside old new
    → KeepsNotes old.solutions new.solutions
    → (let round : Settings × Table = (new.settings, new.table) in round)
    ≡ change (old.settings, old.table) → ChangesRound e r change xs (set xs i new)
round_changed_to xs e r i old new change at there keeps notes is = record {
  rounds = told e r old new xs ys sets (option_map kept_value) (option_map change) (ap Some is);
  scrambles =
      λ f s k.
      alike e r old new xs ys sets (option_and_then (place_in k)) (ap (slot k) keeps.scrambles) f s;
  waiting = alike e r old new xs ys sets (option_map waiting_in) (ap Some keeps.waiting);
  seen = alike e r old new xs ys sets (option_map seen_in) (ap Some keeps.seen);
  solved =
      λ f s k n.
      alike e r old new xs ys sets (λ o. option_map_or (solved_in k n) o false) (notes n k) f s;
}
  where
    ys : List KeptRound
    ys = set xs i new

    sets : IsSetIn e r old new xs ys
    sets = set_in xs e r i old new at there keeps.event keeps.round

-- a round that is pushed is added

pub round_pushed : (xs : List KeptRound) (new : KeptRound) (e : Event) (r : ℕ)
    (round : Settings × Table) (waits : List ℕ) (sees : List ℕ × ℕ)
    → new.id.event ≡ e → new.id.round ≡ r → kept_value new ≡ round → waiting_in new ≡ waits
    → seen_in new ≡ sees
    → ((k : ℕ) → place_in k new ≡ None) → ((n k : ℕ) → is_noted new.solutions n k ≡ false)
    → AddsRound e r round waits sees xs (xs ++ new ∷ [])
round_pushed xs new e r round waits sees event number is others seen empty unsolved = record {
  rounds =
      λ f s. ap (option_map kept_value) (find-append (is_round f s) xs (new ∷ []))
      ∙ added kept_value round is f s (find (is_round f s) xs);
  scrambles =
      λ f s k. ap (option_and_then (place_in k)) (find-append (is_round f s) xs (new ∷ []))
      ∙ none (option_and_then (place_in k)) (empty k) f s (find (is_round f s) xs);
  waiting =
      λ f s. ap (option_map waiting_in) (find-append (is_round f s) xs (new ∷ []))
      ∙ added waiting_in waits others f s (find (is_round f s) xs);
  seen =
      λ f s. ap (option_map seen_in) (find-append (is_round f s) xs (new ∷ []))
      ∙ added seen_in sees seen f s (find (is_round f s) xs);
  solved =
      λ f s k n.
      ap (λ o. option_map_or (solved_in k n) o false) (find-append (is_round f s) xs (new ∷ []))
      ∙ none (λ o. option_map_or (solved_in k n) o false) (unsolved n k) f s
      (find (is_round f s) xs);
}
  where
    nothing : {X : Type 0} (asked : Option KeptRound → X) → asked (Some new) ≡ asked None
        → (b : Bool) → asked (cond b (Some new) None) ≡ asked None
    nothing asked same true = same
    nothing asked same false = refl

    -- what is the same of the new round as of none
    none : {X : Type 0} (asked : Option KeptRound → X) → asked (Some new) ≡ asked None
        → (f : Event) (s : ℕ) (x : Option KeptRound)
        → asked (option_or x (find (is_round f s) (new ∷ []))) ≡ asked x
    none asked same f s None = nothing asked same (is_round f s new)
    none asked same f s (Some x) = refl

    -- what is asked of the new round, where it is the one that is asked for
    last : {X : Type 0} (g : KeptRound → X) (is : X) → g new ≡ is → (f : Event) (s : ℕ) (b : Bool)
        → is_round f s new ≡ b
        → option_map g (cond (is_round f s new) (Some new) None) ≡ cond b (Some is) None
    last g is h f s true at = rw at (ap Some h)
    last g is h f s false at = rw at refl

    added : {X : Type 0} (g : KeptRound → X) (is : X) → g new ≡ is → (f : Event) (s : ℕ)
        (x : Option KeptRound) → option_map g (option_or x (find (is_round f s) (new ∷ [])))
        ≡ option_or (option_map g x) (cond (same_event f e && s == r) (Some is) None)
    added g is h f s None = last g is h f s (same_event f e && s == r) (rw (event, number) refl)
    added g is h f s (Some x) = refl

-- no attempt has a scramble where all places are free
pub all_free : (k : ℕ) → slot k (None ∷ None ∷ None ∷ None ∷ None ∷ []) ≡ None
all_free k = free (k - 1)
  where
    places : List (Option ℕ)
    places = None ∷ None ∷ None ∷ None ∷ None ∷ []

    free : (i : ℕ) → get_or places i None ≡ None
    free zero = refl
    free (suc zero) = refl
    free (suc (suc zero)) = refl
    free (suc (suc (suc zero))) = refl
    free (suc (suc (suc (suc zero)))) = refl
    free (suc (suc (suc (suc (suc i))))) = refl

-- nothing is looked up otherwise where only room was made for a note
pub round_as_before : (xs : List KeptRound) (e : Event) (r i : ℕ) (old new : KeptRound)
    → IsKeptAt xs e r i → old ≡ get_or xs i old → KeepsBeside old new
    → KeepsNotes old.solutions new.solutions
    → (let round : Settings × Table = (new.settings, new.table) in round)
    ≡ (old.settings, old.table)
    → (f : Event) (s : ℕ) → ChangesRound f s (λ round. round) xs (set xs i new)
round_as_before xs e r i old new at there keeps notes is f s = record {
  rounds =
      λ g t. same.rounds g t ∙ kept (same_event g e && t == r) (kept_round g t xs)
      ∙ sym (kept (same_event g f && t == s) (kept_round g t xs));
  scrambles = same.scrambles;
  waiting = same.waiting;
  seen = same.seen;
  solved = same.solved;
}
  where
    same : ChangesRound e r (λ x. x) xs (set xs i new)
    same = round_changed_to xs e r i old new (λ x. x) at there keeps notes is

    kept : (b : Bool) (x : Option (Settings × Table))
        → cond b (option_map (λ (y : Settings × Table). y) x) x ≡ x
    kept true None = refl
    kept true (Some y) = refl
    kept false x = refl

-- what is entered for an attempt changes the round at a place
pub round_entered : (xs : List KeptRound) (e : Event) (r i k n : ℕ) (x : Entered)
    (old new : KeptRound) (change : Settings × Table → Settings × Table)
    → IsKeptAt xs e r i → old ≡ get_or xs i old → KeepsBeside old new → ((m j : ℕ) → 1 ≤ j
    → is_noted new.solutions m j
    ≡ cond (m == n && j == k) (is_solution x) (is_noted old.solutions m j))
    → (let round : Settings × Table = (new.settings, new.table) in round)
    ≡ change (old.settings, old.table) → EntersRound e r k n x change xs (set xs i new)
round_entered xs e r i k n x old new change at there keeps notes is = record {
  there = at.there;
  rounds = told e r old new xs ys sets (option_map kept_value) (option_map change) (ap Some is);
  scrambles =
      λ f s j.
      alike e r old new xs ys sets (option_and_then (place_in j)) (ap (slot j) keeps.scrambles) f s;
  waiting = alike e r old new xs ys sets (option_map waiting_in) (ap Some keeps.waiting);
  seen = alike e r old new xs ys sets (option_map seen_in) (ap Some keeps.seen);
  solved =
      λ f s j m low.
      told e r old new xs ys sets (λ o. option_map_or (solved_in j m) o false)
      (cond (m == n && j == k) (is_solution x)) (notes m j low) f s
      ∙ nested (same_event f e && s == r) (m == n && j == k) (is_solution x) (kept_solved f s j m
      xs);
}
  where
    ys : List KeptRound
    ys = set xs i new

    sets : IsSetIn e r old new xs ys
    sets = set_in xs e r i old new at there keeps.event keeps.round

-- a scramble of the round at a place is set
pub scramble_set_to : (xs : List KeptRound) (e : Event) (r k place i : ℕ) (old : KeptRound)
    → IsKeptAt xs e r i → old ≡ get_or xs i old → 1 ≤ k → k - 1 < length old.scrambles
    → AddsScramble e r k place xs
    (set xs i (record old { scrambles = set old.scrambles (k - 1) (Some place) }))
scramble_set_to xs e r k place i old at there low room = record {
  there = at.there;
  rounds = alike e r old new xs ys sets (option_map kept_value) refl;
  scrambles =
      λ f s j one.
      told e r old new xs ys sets (option_and_then (place_in j)) (cond (j == k) (Some place))
      (slots j one (j == k) refl) f s
      ∙ nested (same_event f e && s == r) (j == k) (Some place) (kept_scramble f s j xs);
  waiting = alike e r old new xs ys sets (option_map waiting_in) refl;
  seen = alike e r old new xs ys sets (option_map seen_in) refl;
  solved =
      λ f s j n.
      alike e r old new xs ys sets (λ o. option_map_or (solved_in j n) o false) refl f s;
}
  where
    new : KeptRound
    new = record old { scrambles = set old.scrambles (k - 1) (Some place) }

    ys : List KeptRound
    ys = set xs i new

    sets : IsSetIn e r old new xs ys
    sets = set_in xs e r i old new at there refl refl

    slots : (j : ℕ) → 1 ≤ j → (b : Bool) → (j == k) ≡ b
        → slot j (set old.scrambles (k - 1) (Some place)) ≡ cond b (Some place) (slot j
        old.scrambles)
    slots j one true h =
        ap (λ (n : ℕ). get_or (set old.scrambles (k - 1) (Some place)) (n - 1) None)
        (eqb-true j k h)
        ∙ get_or-set_same old.scrambles (k - 1) (Some place) None room
    slots j one false h =
        let other : j - 1 ≢ k - 1 = grind (arith, nat_tests) in
        get_or-set_other old.scrambles (k - 1) (j - 1) (Some place) None other

-- who withdraws leaves the round at a place, and the first of those who wait takes the place
pub round_exited_to : (xs : List KeptRound) (e : Event) (r i n : ℕ) (old : KeptRound)
    (table : Table) (waiting : Vec ℕ) → IsKeptAt xs e r i → old ≡ get_or xs i old
    → waiting.items ≡ drop 1 (waiting_in old)
    → table ≡ withdrawn old.table n (first_of_all (waiting_in old))
    → ExchangesRound e r n xs (set xs i (record old { table = table; waiting = waiting }))
round_exited_to xs e r i n old table waiting at there others is = record {
  rounds =
      told e r old new xs ys sets (option_map kept_value)
      (option_map (with_exit n (option_and_then first_of_all (kept_waiting e r xs))))
      (ap (λ (t : Table). let x : Settings × Table = (old.settings, t) in Some x) is
      ∙ ap (λ (o : Option ℕ). Some (with_exit n o (old.settings, old.table))) (sym next));
  scrambles = λ f s k. alike e r old new xs ys sets (option_and_then (place_in k)) refl f s;
  waiting =
      told e r old new xs ys sets (option_map waiting_in) (option_map (drop 1)) (ap Some others);
  seen = alike e r old new xs ys sets (option_map seen_in) refl;
  solved =
      λ f s k m.
      alike e r old new xs ys sets (λ o. option_map_or (solved_in k m) o false) refl f s;
}
  where
    new : KeptRound
    new = record old { table = table; waiting = waiting }

    ys : List KeptRound
    ys = set xs i new

    sets : IsSetIn e r old new xs ys
    sets = set_in xs e r i old new at there refl refl

    next : option_and_then first_of_all (kept_waiting e r xs) ≡ first_of_all (waiting_in old)
    next = ap (λ o. option_and_then first_of_all (option_map waiting_in o)) sets.was

-- what is kept of a round that was found at a place
pub kept_is : (xs : List KeptRound) (e : Event) (r i : ℕ) (old : KeptRound) → IsKeptAt xs e r i
    → old ≡ get_or xs i old → kept_round e r xs ≡ Some (old.settings, old.table)
kept_is xs e r i old at there =
    at.kept old ∙ ap (λ (y : KeptRound). Some (kept_value y)) (sym there)

-- another scramble is refused exactly where a solution is found, once the other checks hold
pub found_solved : (xs : List KeptRound) (e : Event) (r k i : ℕ) (scramble : Option (List Move))
    (old : KeptRound) (found : Bool)
    → IsKeptAt xs e r i → old ≡ get_or xs i old → is_moves (unit_of e) ≡ true
    → is_some scramble ≡ true → old.table.is_closed ≡ false → found
    ≡ list_any (has_solved (λ n. is_noted old.solutions n k) old.table k) (standings old.table)
    → rescramble_refusal e k scramble (λ n. kept_solved e r k n xs) (kept_round e r xs)
    ≡ cond found (Some code.HasAttempts) None
found_solved xs e r k i scramble old found at there moves scrambled still is =
    ap (rescramble_refusal e k scramble (λ n. kept_solved e r k n xs))
    (kept_is xs e r i old at there)
    ∙ ap (λ (o : Option KeptRound).
    rescramble_refusal e k scramble (λ n. option_map_or (solved_in k n) o false)
    (Some (old.settings, old.table))) (at.found old ∙ ap Some (sym there))
    ∙ step (is_moves (unit_of e)) (is_some scramble) old.table.is_closed
    (list_any (has_solved (λ n. is_noted old.solutions n k) old.table k) (standings old.table))
    moves scrambled still is
  where
    step : (m s c l : Bool) → m ≡ true → s ≡ true → c ≡ false → found ≡ l
        → cond (not m) (Some code.WrongOutcome) (cond (not s) (Some code.NoScramble)
        (cond c (Some code.Closed) (cond l (Some code.HasAttempts) None)))
        ≡ cond found (Some code.HasAttempts) None
    step true true false l moves scrambled still is =
        ap (λ (b : Bool). cond b (Some code.HasAttempts) None) (sym is)
    step false s c l moves scrambled still is = absurd (false≢true moves)
    step true false c l moves scrambled still is = absurd (false≢true scrambled)
    step true true true l moves scrambled still is = absurd (false≢true (sym still))

-- the same with other settings and another table
pub round_set_to : (xs : List KeptRound) (e : Event) (r i : ℕ) (old : KeptRound)
    (settings : Settings) (table : Table) (change : Settings × Table → Settings × Table)
    → IsKeptAt xs e r i → old ≡ get_or xs i old
    → (let round : Settings × Table = (settings, table) in round) ≡ change (old.settings, old.table)
    → ChangesRound e r change xs (set xs i (record old { settings = settings; table = table }))
round_set_to xs e r i old settings table change at there is =
    round_changed_to xs e r i old (record old { settings = settings; table = table }) change at
    there (record { event = refl; round = refl; scrambles = refl; waiting = refl; seen = refl })
    (λ n k. refl) is

-- those that are left once a round is taken away
pub found_without : (e f : Event) (r s : ℕ) (xs : List KeptRound)
    → find (is_round f s) (filter (λ x. not (is_round e r x)) xs)
    ≡ cond (same_event f e && s == r) None (find (is_round f s) xs)
found_without e f r s [] = none_either (same_event f e && s == r) None refl
found_without e f r s (x ∷ xs) =
    step (is_round e r x) (is_round f s x) (same_event f e && s == r) refl refl refl
    (found_without e f r s xs)
  where
    rest : List KeptRound
    rest = filter (λ y. not (is_round e r y)) xs

    step : (a t b : Bool) → is_round e r x ≡ a → is_round f s x ≡ t → (same_event f e && s == r) ≡ b
        → find (is_round f s) rest ≡ cond b None (find (is_round f s) xs)
        → find (is_round f s) (cond (not a) (x ∷ rest) rest)
        ≡ cond b None (cond t (Some x) (find (is_round f s) xs))
    step true t true here is h ih = ih
    step true t false here is h ih =
        let apart : t ≡ false = sym is ∙ other_round e f r s x here h in
        rw apart ih
    step false true true here is h ih =
        absurd (false≢true (sym here ∙ sym (same_round e f r s x h) ∙ is))
    step false false true here is h ih =
        ap (λ (u : Bool). cond u (Some x) (find (is_round f s) rest)) is ∙ ih
    step false true false here is h ih =
        ap (λ (u : Bool). cond u (Some x) (find (is_round f s) rest)) is
    step false false false here is h ih =
        ap (λ (u : Bool). cond u (Some x) (find (is_round f s) rest)) is ∙ ih
