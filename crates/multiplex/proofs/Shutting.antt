-- Changes of which the node knows nothing, one after the other.
use Rattle.std.proofs.Common.{◌≡◌, ◌⊎◌, inl, inr, refl, sym, ap, subst, ◌∙◌, ℕ, ◌+◌, ◌<◌, ◌≤◌, List}
use Rattle.std.proofs.Common.{[], ◌∷◌, ◌++◌, append-nil, length, length-append, Option, None, Some}
use Rattle.std.proofs.Common.{arith, get_or, true, false, ◌-◌, position, Bool}
use Rattle.std.proofs.lemmas.{Bool.ltb-true, List.Quantifiers.position-Some}
use Rattle.store.specs.declared.home.Home.{Home}
use Rattle.guarded.specs.LockedConnections.{LockedConnectionOf, begun, fresh_locked_connection}
use Rattle.std.specs.List.{AllByRecursion}
use Rattle.polled.{specs.Telling.Tells, proofs.Telling.Tells-as, proofs.Telling.Tells-trans}
use Rattle.polled.specs.Happenings.{Happened, Broke, Came, Closed, Full, watched}
use Rattle.multiplex.specs.Passing.{Change, NoSocket, TurnedAway, TakesLast, Unwatched, told_change}
use Rattle.multiplex.specs.Passing.{Changes, Comes, Lobby, Shut, Enters, IsCause, guest, lobby}
use Rattle.multiplex.specs.declared.{dear.DearTurns.DearTurns, own_ticks.OwnTicks.OwnTicks}
use Rattle.multiplex.specs.declared.ends.{ServingEnd.ServingEnd, EndReason.EndReason}
use Rattle.multiplex.specs.declared.table.{Guest.Guest, ClientTable.ClientTable}
use Rattle.multiplex.specs.{declared.table.ServingOptions.ServingOptions, Noting.first_notes}
use Rattle.multiplex.specs.model.Scenes.{AltersSome, ChangeAll, Empties, EndsLast, IsShut, Loses}
use Rattle.multiplex.specs.model.Scenes.{Welcomes, told_changes, lobby_of}
use Rattle.multiplex.specs.{model.Visiting.Sends, Silence.waited_for, model.Tables.is_silent}
use Rattle.answers.specs.Seen.{Seen}
use Rattle.wire.specs.{Ranges.IsDifference, declared.standing.Difference.Difference}
use Rattle.multiplex.specs.model.Tables.{IsKept, IsLongestAt, KeepsAll, KeepsKept, MakesRoom}
use Rattle.multiplex.proofs.Placed.{all_back, all_both, all_front}
use Rattle.multiplex.proofs.Telling.{changes_told_both}
use Rattle.multiplex.specs.declared.ends.EndReason.TheVariants as why

pub lobby_same : {gs hs : List Guest} {n m s t : ℕ} {w v : OwnTicks} {x y : Bool}
    {d e : Option Difference} {o p : Option ServingEnd} → gs ≡ hs → n ≡ m → s ≡ t → w ≡ v → x ≡ y
    → d ≡ e → o ≡ p → lobby gs n s w x d o ≡ lobby hs m t v y e p
lobby_same g n s w x d o = cc

pub spent_same : (a b : DearTurns) → a ≡ b → a.spent ≡ b.spent
spent_same a b is = ap (λ (d : DearTurns). d.spent) is

pub ChangeAll-trans : (home : Home) (t : ServingOptions) (a m b : Lobby) (cs ds : List Change)
    → ChangeAll home t a cs m → ChangeAll home t m ds b → ChangeAll home t a (cs ++ ds) b
ChangeAll-trans home t a m b [] ds h k = subst (λ z. ChangeAll home t z ds b) (sym h) k
ChangeAll-trans home t a m b (c ∷ cs) ds h k =
    (h.0, h.1, ChangeAll-trans home t h.0 m b cs ds h.2 k)

pub alters_none : {C : Type 0} (happened : C → Option (List Happened)) (home : Home)
    (t : ServingOptions) (table : ClientTable) (c later : C)
    → Tells (happened c) (happened later) [] → AltersSome happened home t None table table c later
alters_none happened home t table c later told = ([], record { changed = refl; told = told })

pub alters_both : {C : Type 0} (happened : C → Option (List Happened)) (home : Home)
    (t : ServingOptions) (over : Option ServingEnd) (old mid new : ClientTable)
    (c between later : C) → AltersSome happened home t None old mid c between
    → AltersSome happened home t over mid new between later
    → AltersSome happened home t over old new c later
alters_both happened home t over old mid new c between later h k = (
  h.0 ++ k.0,
  record {
    changed =
        ChangeAll-trans home t (lobby_of old None) (lobby_of mid None) (lobby_of new over) h.0 k.0
        h.1.changed k.1.changed;
    told =
        Tells-as (happened c) (happened later) _ _ (sym (changes_told_both h.0 k.0))
        (Tells-trans (happened c) (happened between) (happened later) _ _ h.1.told k.1.told);
  },
)

-- a change, before those that follow
pub alters_after : {C : Type 0} (happened : C → Option (List Happened)) (home : Home)
    (t : ServingOptions) (over : Option ServingEnd) (one : Change) (old mid new : ClientTable)
    (c between later : C) → Changes home t one (lobby_of old None) (lobby_of mid None)
    → Tells (happened c) (happened between) (told_change one)
    → AltersSome happened home t over mid new between later
    → AltersSome happened home t over old new c later
alters_after happened home t over one old mid new c between later is told k = (
  one ∷ k.0,
  record {
    changed = (lobby_of mid None, is, k.1.changed);
    told = Tells-trans (happened c) (happened between) (happened later) _ _ told k.1.told;
  },
)

-- ---- a connection is ended

shuts_one : {C : Type 0} (happened : C → Option (List Happened)) (home : Home) (t : ServingOptions)
    (w : EndReason) (over : Option ServingEnd) (old new : ClientTable) (c later : C)
    (before after : List Guest) (gone : Guest) → IsCause t w (lobby_of old None) gone
    → Loses happened over old new c later before after gone
    → AltersSome happened home t over old new c later
shuts_one happened home t w over old new c later before after gone cause h = (
  Shut gone.number w ∷ [],
  record {
    changed = (
      lobby_of new over,
      (
        before,
        after,
        gone,
        record {
          found = h.found;
          number = refl;
          cause = cause;
          left =
              lobby_same h.left h.next h.time h.own (spent_same new.dear old.dear h.dear)
              h.differs h.ends;
        },
      ),
      refl,
    );
    told = h.told;
  },
)

-- that of the client at this place, for a cause that holds of whoever is there
pub shuts : {C : Type 0} (happened : C → Option (List Happened)) (home : Home) (t : ServingOptions)
    (w : EndReason) (place : ℕ) (over : Option ServingEnd) (old new : ClientTable) (c later : C)
    → ((before after : List Guest) (gone : Guest) → length before ≡ place
    → old.guests.items ≡ before ++ gone ∷ after → IsCause t w (lobby_of old None) gone)
    → IsShut happened place over old new c later → AltersSome happened home t over old new c later
shuts happened home t w place over old new c later cause h =
    shuts_one happened home t w over old new c later h.0 h.1 h.2
    (cause h.0 h.1 h.2 h.3 h.4.found) h.4

pub all_but : {X : Type 0} (P : X → Type 0) (xs : List X) (x : X) (ys : List X)
    → AllByRecursion P (xs ++ x ∷ ys) → AllByRecursion P (xs ++ ys)
all_but P xs x ys h =
    all_both P xs ys (all_front P xs (x ∷ ys) h) (all_back P xs (x ∷ ys) h).1

pub shut_keeps : {C : Type 0} (happened : C → Option (List Happened)) (place : ℕ)
    (over : Option ServingEnd) (old new : ClientTable) (c later : C)
    → IsShut happened place over old new c later → KeepsAll old new
shut_keeps happened place over old new c later h home wire kept = record {
  guests =
      subst (λ z. AllByRecursion (IsKept home wire) z) (sym h.4.left) (all_but (IsKept home wire)
      h.0 h.2 h.1 (subst (λ z. AllByRecursion (IsKept home wire) z) h.4.found kept.guests));
  differs = subst (λ z. IsDifference z) (sym h.4.differs) kept.differs;
}

-- ---- a client comes

pub welcome_keeps : {C : Type 0} (happened : C → Option (List Happened)) (home : Home)
    (t : ServingOptions) (random : List ℕ) (x : Seen) (old new : ClientTable) (c later : C)
    → AllByRecursion (λ (len : ℕ). len ≤ 65536) x.told
    → Welcomes happened home t random x old new c later → KeepsKept home t.wire old new
welcome_keeps happened home t random x old new c later most h kept = record {
  guests = either h.either;
  differs = subst (λ z. IsDifference z) (sym h.differs) kept.differs;
}
  where
    either : ((new.guests.items ≡ old.guests.items ++ guest old.next
        (fresh_locked_connection t.doors random home t.wire) (first_notes x) old.time ∷ []) × Tells
        (happened c) (happened later) []) ⊎ ((new.guests.items ≡ old.guests.items) × Tells
        (happened c) (happened later) (Closed old.next ∷ []))
        → AllByRecursion (IsKept home t.wire) new.guests.items
    either (inl k) =
        subst (λ z. AllByRecursion (IsKept home t.wire) z) (sym k.0)
        (all_both (IsKept home t.wire) old.guests.items _ kept.guests (
          record { home = refl; wire = refl; known = most },
          tt,
        ))
    either (inr k) =
        subst (λ z. AllByRecursion (IsKept home t.wire) z) (sym k.0) kept.guests

pub enters : {C : Type 0} (happened : C → Option (List Happened)) (home : Home) (t : ServingOptions)
    (random : List ℕ) (x : Seen) (old new : ClientTable) (c between later : C)
    → old.next < t.most → length old.guests.items < 512
    → Tells (happened c) (happened between) (Came old.next random ∷ [])
    → Welcomes happened home t random x old new between later
    → AltersSome happened home t None old new c later
enters happened home t random x old new c between later wanted room told h = either h.either
  where
    comes : (more : List Guest) → new.guests.items ≡ old.guests.items ++ more
        → Enters t old.next more (lobby_of old None) (lobby_of new None)
    comes more is = record {
      going = refl;
      number = refl;
      wanted = wanted;
      room = room;
      enters =
          lobby_same is h.next h.time h.own (spent_same new.dear old.dear h.dear) h.differs refl;
    }

    either : ((new.guests.items ≡ old.guests.items ++ guest old.next
        (fresh_locked_connection t.doors random home t.wire) (first_notes x) old.time ∷ []) × Tells
        (happened between) (happened later) []) ⊎ ((new.guests.items ≡ old.guests.items) × Tells
        (happened between) (happened later) (Closed old.next ∷ []))
        → AltersSome happened home t None old new c later
    either (inl k) = (
      Comes old.next random ∷ [],
      record {
        changed = (lobby_of new None, (x.told, comes _ k.0), refl);
        told = Tells-trans (happened c) (happened between) (happened later) _ _ told k.1;
      },
    )
    either (inr k) = (
      TurnedAway old.next random ∷ [],
      record {
        changed =
            (lobby_of new None, comes [] (k.0 ∙ sym (append-nil old.guests.items)), refl);
        told = Tells-trans (happened c) (happened between) (happened later) _ _ told k.1;
      },
    )

pub no_socket : {C : Type 0} (happened : C → Option (List Happened)) (home : Home)
    (t : ServingOptions) (over : Option ServingEnd) (old new : ClientTable) (c between later : C)
    → Tells (happened c) (happened between) (Full ∷ [])
    → AltersSome happened home t over old new between later
    → AltersSome happened home t over old new c later
no_socket happened home t over old new c between later told k =
    alters_after happened home t over NoSocket old old new c between later (refl, refl) told k

-- the system refuses to name this one
pub unwatched : {C : Type 0} (happened : C → Option (List Happened)) (home : Home)
    (t : ServingOptions) (k : ℕ) (table : ClientTable) (c between : C)
    → Tells (happened c) (happened between) (Broke k ∷ [])
    → AltersSome happened home t None table table c between
unwatched happened home t k table c between told = (
  Unwatched k ∷ [],
  record { changed = (lobby_of table None, (refl, refl), refl); told = told },
)

pub may_watch : {C : Type 0} (happened : C → Option (List Happened)) (home : Home)
    (t : ServingOptions) (k : ℕ) (ok : Bool) (table : ClientTable) (c between : C)
    → Tells (happened c) (happened between) (watched k ok)
    → AltersSome happened home t None table table c between
may_watch happened home t k true table c between told =
    alters_none happened home t table c between told
may_watch happened home t k false table c between told =
    unwatched happened home t k table c between told

-- ---- why

get_here : {X : Type 0} (before : List X) (x : X) (after : List X) (d : X)
    → get_or (before ++ x ∷ after) (length before) d ≡ x
get_here [] x after d = refl
get_here (y ∷ before) x after d = get_here before x after d

pub at_place : (guests before : List Guest) (gone : Guest) (after : List Guest) (i : ℕ) (d : Guest)
    → length before ≡ i → guests ≡ before ++ gone ∷ after → get_or guests i d ≡ gone
at_place guests before gone after i d len found =
    ap (λ z. get_or z i d) found ∙ ap (λ n. get_or (before ++ gone ∷ after) n d) (sym len)
    ∙ get_here before gone after d

pub longest_cause : (guests before : List Guest) (gone : Guest) (after : List Guest) (i : ℕ)
    → length before ≡ i → guests ≡ before ++ gone ∷ after → IsLongestAt guests i
    → AllByRecursion (λ (o : Guest). gone.ready ≤ o.ready) guests
longest_cause guests before gone after i len found h =
    subst (λ (z : Guest). AllByRecursion (λ (o : Guest). z.ready ≤ o.ready) guests)
    (at_place guests before gone after i gone len found) (h.first gone)

pub room_cause : (t : ServingOptions) (w : EndReason) (a : Lobby) (gone : Guest)
    → a.over ≡ None → MakesRoom w a.guests
    → AllByRecursion (λ (o : Guest). gone.ready ≤ o.ready) a.guests → IsCause t w a gone
room_cause t why.Crowded a gone going full longest = (going, full, longest)
room_cause t why.NoSocket a gone going full longest = (going, longest)
room_cause t _ a gone going full longest = absurd full

pub silent_cause : (patience time : ℕ) (guests before : List Guest) (gone : Guest)
    (after : List Guest) (i : ℕ) → length before ≡ i → guests ≡ before ++ gone ∷ after
    → position (is_silent patience time) guests ≡ Some i
    → waited_for patience (begun gone.talk) < time - gone.ready
silent_cause patience time guests before gone after i len found is =
    let here = (position-Some (is_silent patience time) guests i gone is).1 in
    ltb-true (waited_for patience (begun gone.talk)) (time - gone.ready)
    (subst (λ z. is_silent patience time z ≡ true)
    (at_place guests before gone after i gone len found) here)

pub shut_fewer : {C : Type 0} (happened : C → Option (List Happened)) (place : ℕ)
    (over : Option ServingEnd) (old new : ClientTable) (c later : C)
    → IsShut happened place over old new c later
    → length new.guests.items + 1 ≡ length old.guests.items
shut_fewer happened place over old new c later h =
    omega (
      arith,
      ap length h.4.left,
      ap length h.4.found,
      length-append h.0 h.1,
      length-append h.0 (h.2 ∷ h.1),
    )

-- ---- all are ended

-- these are in a lobby in place of those of a table, serving is over
abbrev over_with : ClientTable → ServingEnd → List Guest → Lobby
over_with t over guests = lobby guests t.next t.time t.own t.dear.spent t.differs (Some over)

some_none : (over : ServingEnd) → Some over ≡ None → ⊥
some_none over e = absurd cc

-- what is told once a client was offered what is to be sent to it, and which guest it is then
record Offered {C : Type 0} (happened : C → Option (List Happened)) (home : Home)
    (t : ServingOptions) (over : ServingEnd) (mid : ClientTable) (front : List Guest) (gone : Guest)
    (c later : C) : Type 0 where
  guest : Guest
  number : guest.number ≡ gone.number
  changes : List Change
  changed : ChangeAll home t (over_with mid over (front ++ gone ∷ [])) changes
      (over_with mid over (front ++ guest ∷ []))
  told : Tells (happened c) (happened later) (told_changes changes)

offered : {C : Type 0} (happened : C → Option (List Happened)) (home : Home) (t : ServingOptions)
    (over : ServingEnd) (mid : ClientTable) (front : List Guest) (gone : Guest)
    (talk : LockedConnectionOf) (ok : Bool)
    (c later : C) → Sends happened gone.number ok c later gone.talk talk
    → Offered happened home t over mid front gone c later
offered happened home t over mid front gone talk true c later (inl k) =
    let away : Guest = record gone { talk = talk } in
    record {
      guest = away;
      number = refl;
      changes = TakesLast gone.number (Some k.0) ∷ [];
      changed = (
        over_with mid over (front ++ away ∷ []),
        (
          front,
          [],
          gone,
          away,
          record {
            over = some_none over;
            found = refl;
            number = refl;
            front = k.1;
            same = ap (λ (z : LockedConnectionOf). record gone { talk = z }) k.2;
            left = refl;
          },
        ),
        refl,
      );
      told = k.3;
    }
offered happened home t over mid front gone talk true c later (inr k) =
    record { guest = gone; number = refl; changes = []; changed = refl; told = k.1 }
offered happened home t over mid front gone talk false c later k = record {
  guest = gone;
  number = refl;
  changes = TakesLast gone.number None ∷ [];
  changed = (over_with mid over (front ++ gone ∷ []), (some_none over, refl), refl);
  told = k.1;
}

-- one more was ended, of those that are still there the last one
pub empties_more : {C : Type 0} (happened : C → Option (List Happened)) (home : Home)
    (t : ServingOptions) (over : ServingEnd) (old mid new : ClientTable) (gone : Guest)
    (talk : LockedConnectionOf) (c between later : C)
    → mid.guests.items ≡ new.guests.items ++ gone ∷ [] → new.next ≡ mid.next → new.time ≡ mid.time
    → new.own ≡ mid.own → new.dear ≡ mid.dear → new.differs ≡ mid.differs
    → Empties happened home t over old mid c between → EndsLast happened between later gone talk
    → Empties happened home t over old new c later
empties_more happened home t over old mid new gone talk c between later last next time own dear
    differs h (end, ok, sends, closed) =
    let o = offered happened home t over mid new.guests.items gone talk ok between end sends in
    let shut = Shut gone.number why.Over ∷ [] in
    let there : lobby_of mid (Some over) ≡ over_with mid over (new.guests.items ++ gone ∷ []) =
    lobby_same last refl refl refl refl refl refl in (
      h.0 ++ (o.changes ++ shut),
      ChangeAll-trans home t (lobby_of old (Some over)) (lobby_of mid (Some over))
          (lobby_of new (Some over)) h.0 (o.changes ++ shut) h.1 (subst
          (λ l. ChangeAll home t l (o.changes ++ shut) (lobby_of new (Some over))) (sym there)
          (ChangeAll-trans home t (over_with mid over (new.guests.items ++ gone ∷ []))
          (over_with mid over (new.guests.items ++ o.guest ∷ [])) (lobby_of new (Some over))
          o.changes shut o.changed (
            lobby_of new (Some over),
            (
              new.guests.items,
              [],
              o.guest,
              record {
                found = refl;
                number = o.number;
                cause = some_none over;
                left =
                    lobby_same (sym (append-nil new.guests.items)) next time own
                    (spent_same new.dear mid.dear dear) differs refl;
              },
            ),
            refl,
          ))),
      Tells-as (happened c) (happened later) _ _
          (sym (changes_told_both h.0 (o.changes ++ shut))) (Tells-trans (happened c)
          (happened between) (happened later) _ _ h.2 (Tells-as (happened between) (happened later)
          _ _ (sym (changes_told_both o.changes shut))
          (Tells-trans (happened between) (happened end) (happened later) _ _ o.told closed))),
    )

pub empties_same : {C : Type 0} (happened : C → Option (List Happened)) (home : Home)
    (t : ServingOptions) (over : ServingEnd) (old mid new : ClientTable) (c later : C)
    → mid.guests.items ≡ new.guests.items ++ [] → new.next ≡ mid.next → new.time ≡ mid.time
    → new.own ≡ mid.own → new.dear ≡ mid.dear → new.differs ≡ mid.differs
    → Empties happened home t over old mid c later → Empties happened home t over old new c later
empties_same happened home t over old mid new c later items next time own dear differs h = (
  h.0,
  subst (λ l. ChangeAll home t (lobby_of old (Some over)) h.0 l)
      (sym (lobby_same (sym (items ∙ append-nil new.guests.items)) next time own
      (spent_same new.dear mid.dear dear) differs refl)) h.1,
  h.2,
)
