-- The clients of a lobby, each with what is behind its door.
use Rattle.std.proofs.Common.{◌≡◌, ◌≢◌, refl, sym, ap, subst, ◌∙◌, ℕ, ◌+◌, ◌<◌, ◌≤◌, List, [], ◌∷◌}
use Rattle.std.proofs.Common.{◌++◌, Option, None, Some, arith, cond, eqb}
use Rattle.std.proofs.lemmas.Bool.{eq-eqb, ne_eqb}
use Rattle.std.specs.{List.AllByRecursion, Prelude.IsSome}
use Rattle.guarded.specs.LockedConnections.{LockedConnectionOf, fresh_locked_connection}
use Rattle.sealed.specs.declared.callers.Access.{Access}
use Rattle.serving.specs.Turns.{new_talk}
use Rattle.store.specs.declared.home.Home.{Home}
use Rattle.wire.specs.declared.values.Version.{Version}
use Rattle.multiplex.{specs.EachClient.came_with, specs.Passing.Lobby, proofs.Shutting.all_but}
use Rattle.polled.specs.Happenings.{Happened, Came}
use Rattle.multiplex.specs.{Passing.guest, declared.notes.Notes.Notes, declared.table.Guest.Guest}
use Rattle.multiplex.proofs.Apart.{Apart, Below, Other, instead, one_behind, others, without}
use Rattle.multiplex.proofs.Giving.{came_with-both, first_there}
use Rattle.multiplex.proofs.Placed.{all_as, all_back, all_both, all_front}

-- ---- one by its number

abbrev pub put : {X : Type 0} → ℕ → X → (ℕ → X) → ℕ → X
put k x f j = cond (eqb k j) x (f j)

pub put_same : {X : Type 0} (k : ℕ) (x : X) (f : ℕ → X) → put k x f k ≡ x
put_same k x f = ap (λ z. cond z x (f k)) (eq-eqb k k refl)

pub put_other : {X : Type 0} (k : ℕ) (x : X) (f : ℕ → X) (j : ℕ) → j ≢ k → put k x f j ≡ f j
put_other k x f j apart = ap (λ z. cond z x (f j)) (ne_eqb k j (λ e. apart (sym e)))

-- ---- the clients of a lobby

-- a client that is there came
pub record Hosted (told : List Happened) (guards : ℕ → LockedConnectionOf)
    (g : Guest) : Type 0 where
  pub at : guards g.number ≡ g.talk
  pub came : IsSome (came_with g.number told)

-- one that did not come
pub record IsFresh (home : Home) (wire : Version) (told : List Happened)
    (guards : ℕ → LockedConnectionOf) (k : ℕ) : Type 0 where
  pub talk : (guards k).talk ≡ new_talk home wire
  pub absent : came_with k told ≡ None

pub record Stands (home : Home) (wire : Version) (told : List Happened)
    (guards : ℕ → LockedConnectionOf) (guests : List Guest) (next : ℕ) : Type 0 where
  pub hosted : AllByRecursion (Hosted told guards) guests
  pub fresh : (k : ℕ) → next ≤ k → IsFresh home wire told guards k
  pub low : AllByRecursion (Below next) guests
  pub apart : Apart guests

abbrev pub StandsIn : Home → Version → List Happened → (ℕ → LockedConnectionOf) → Lobby → Type 0
StandsIn home wire told guards l = Stands home wire told guards l.guests l.next

-- ---- more is told, of which none came

still_there : (o p : Option (List ℕ)) → IsSome o → IsSome (first_there o p)
still_there None p there = absurd cc
still_there (Some x) p there = refl

still_came : (k : ℕ) (told js : List Happened) → IsSome (came_with k told)
    → IsSome (came_with k (told ++ js))
still_came k told js there =
    subst (λ (o : Option (List ℕ)). IsSome o) (sym (came_with-both k told js))
    (still_there (came_with k told) (came_with k js) there)

still_absent : (k : ℕ) (told js : List Happened) → came_with k told ≡ None → came_with k js ≡ None
    → came_with k (told ++ js) ≡ None
still_absent k told js before more =
    came_with-both k told js ∙ ap (λ o. first_there o (came_with k js)) before ∙ more

pub stands_told : (home : Home) (wire : Version) (told js : List Happened)
    (guards : ℕ → LockedConnectionOf)
    (guests : List Guest) (next : ℕ) → ((k : ℕ) → came_with k js ≡ None)
    → Stands home wire told guards guests next → Stands home wire (told ++ js) guards guests next
stands_told home wire told js guards guests next none h = record {
  hosted =
      all_as (Hosted told guards) (Hosted (told ++ js) guards) guests
      (λ g was. record { at = was.at; came = still_came g.number told js was.came }) h.hosted;
  fresh = λ k above.
      let was = h.fresh k above in
      record { talk = was.talk; absent = still_absent k told js was.absent (none k) };
  low = h.low;
  apart = h.apart;
}

-- ---- a client leaves, or had its turns

pub leaves : (home : Home) (wire : Version) (told : List Happened) (guards : ℕ → LockedConnectionOf)
    (before : List Guest) (g : Guest) (after : List Guest) (next : ℕ)
    → Stands home wire told guards (before ++ g ∷ after) next
    → Stands home wire told guards (before ++ after) next
leaves home wire told guards before g after next h = record {
  hosted = all_but (Hosted told guards) before g after h.hosted;
  fresh = h.fresh;
  low = all_but (Below next) before g after h.low;
  apart = without before g after h.apart;
}

still_hosted : (told : List Happened) (guards : ℕ → LockedConnectionOf) (k : ℕ)
    (g : LockedConnectionOf) (gs : List Guest) → AllByRecursion (Other k) gs
    → AllByRecursion (Hosted told guards) gs → AllByRecursion (Hosted told (put k g guards)) gs
still_hosted told guards k g [] far h = tt
still_hosted told guards k g (x ∷ gs) far h = (
  record { at = put_other k g guards x.number far.0 ∙ h.0.at; came = h.0.came },
  still_hosted told guards k g gs far.1 h.1,
)

-- the client in the middle had its turns, and stays
pub stays : (home : Home) (wire : Version) (told : List Happened) (guards : ℕ → LockedConnectionOf)
    (k : ℕ) (before : List Guest) (old new : Guest) (after : List Guest) (next : ℕ) → old.number ≡ k
    → new.number ≡ k → Stands home wire told guards (before ++ old ∷ after) next
    → Stands home wire told (put k new.talk guards) (before ++ new ∷ after) next
stays home wire told guards k before old new after next was is h =
    let far = others before old after h.apart in
    let under = all_back (Below next) before (old ∷ after) h.low in
    let hosts = all_back (Hosted told guards) before (old ∷ after) h.hosted in
    let here : Hosted told (put k new.talk guards) new =
    record {
      at = ap (λ n. put k new.talk guards n) is ∙ put_same k new.talk guards;
      came =
          subst (λ (n : ℕ). IsSome (came_with n told)) (was ∙ sym is) hosts.0.came;
    } in
    record {
      hosted =
          all_both (Hosted told (put k new.talk guards)) before (new ∷ after) (still_hosted told
          guards k new.talk before (subst (λ n. AllByRecursion (Other n) before) was far.0)
          (all_front (Hosted told guards) before (old ∷ after) h.hosted)) (
            here,
            still_hosted told guards k new.talk after
                (subst (λ n. AllByRecursion (Other n) after) was far.1) hosts.1,
          );
      fresh = λ j above.
          let apart : j ≢ k = λ e. omega (arith, e, above, under.0, was) in
          let same = put_other k new.talk guards j apart in
          let fresh = h.fresh j above in
          record {
            talk = ap (λ (g : LockedConnectionOf). g.talk) same ∙ fresh.talk;
            absent = fresh.absent;
          };
      low =
          all_both (Below next) before (new ∷ after)
          (all_front (Below next) before (old ∷ after) h.low)
          (subst (λ n. n < next) (was ∙ sym is) under.0, under.1);
      apart = instead before old new after (is ∙ sym was) h.apart;
    }

-- ---- a client comes

pub came_now : (k : ℕ) (random : List ℕ) (told js : List Happened) → came_with k told ≡ None
    → came_with k (told ++ Came k random ∷ js) ≡ Some random
came_now k random told js before =
    came_with-both k told (Came k random ∷ js)
    ∙ ap (λ o. first_there o (came_with k (Came k random ∷ js))) before
    ∙ ap (λ b. cond b (Some random) (came_with k js)) (eq-eqb k k refl)

pub other_came : (k j : ℕ) (random : List ℕ) (js : List Happened) → j ≢ k → came_with k js ≡ None
    → came_with k (Came j random ∷ js) ≡ None
other_came k j random js apart none =
    ap (λ b. cond b (Some random) (came_with k js)) (ne_eqb j k apart) ∙ none

-- it has a connection now, or was turned away
pub arrives : (home : Home) (wire : Version) (doors : Access) (random : List ℕ)
    (told js : List Happened) (guards : ℕ → LockedConnectionOf) (guests : List Guest) (next : ℕ)
    → ((k : ℕ) → came_with k js ≡ None) → Stands home wire told guards guests next
    → Stands home wire (told ++ Came next random ∷ js)
    (put next (fresh_locked_connection doors random home wire) guards) guests (next + 1)
arrives home wire doors random told js guards guests next none h =
    let new = fresh_locked_connection doors random home wire in
    let now = told ++ Came next random ∷ js in
    record {
      hosted =
          all_as (Hosted told (put next new guards)) (Hosted now (put next new guards)) guests
          (λ g was. record {
            at = was.at;
            came = still_came g.number told (Came next random ∷ js) was.came;
          }) (still_hosted told guards next new guests
          (all_as (Below next) (Other next) guests (λ g low e. omega (arith, low, e)) h.low)
          h.hosted);
      fresh = λ k above.
          let apart : k ≢ next = λ e. omega (arith, above, e) in
          let was = h.fresh k (omega (arith, above)) in
          let same = put_other next new guards k apart in
          record {
            talk = ap (λ (g : LockedConnectionOf). g.talk) same ∙ was.talk;
            absent =
                still_absent k told (Came next random ∷ js) was.absent
                (other_came k next random js (λ e. apart (sym e)) (none k));
          };
      low = all_as (Below next) (Below (next + 1)) guests (λ g low. omega (arith, low)) h.low;
      apart = h.apart;
    }

pub one_more : (home : Home) (wire : Version) (doors : Access) (random : List ℕ)
    (told : List Happened) (guards : ℕ → LockedConnectionOf) (guests : List Guest) (next : ℕ)
    (notes : Notes) (time : ℕ) → Stands home wire told guards guests next
    → Stands home wire (told ++ Came next random ∷ [])
    (put next (fresh_locked_connection doors random home wire) guards)
    (guests ++ guest next (fresh_locked_connection doors random home wire) notes time ∷ [])
    (next + 1)
one_more home wire doors random told guards guests next notes time h =
    let g = fresh_locked_connection doors random home wire in
    let all = arrives home wire doors random told [] guards guests next (λ k. refl) h in
    let here :
    Hosted (told ++ Came next random ∷ []) (put next g guards) (guest next g notes time) =
    record {
      at = put_same next g guards;
      came =
          subst (λ (o : Option (List ℕ)). IsSome o)
          (sym (came_now next random told [] (h.fresh next (omega arith)).absent)) refl;
    } in
    record {
      hosted = all_both (Hosted (told ++ Came next random ∷ []) (put next g guards)) guests _
          all.hosted (here, tt);
      fresh = all.fresh;
      low = all_both (Below (next + 1)) guests _ all.low (omega arith, tt);
      apart = one_behind guests _ h.low h.apart;
    }
