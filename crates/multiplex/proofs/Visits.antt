-- A client that was ready: its connection took turns, and stays, or was ended.
use Rattle.std.proofs.Common.{◌≡◌, ◌≢◌, refl, sym, ap, subst, ◌∙◌, ℕ, List, [], ◌∷◌, ◌++◌}
use Rattle.std.proofs.Common.{append_assoc, length, take, drop, get_or, set, suc, Option, None}
use Rattle.std.proofs.Common.{Some, true, false, position, arith, ◌<◌, Bool, ◌↔◌}
use Rattle.std.{specs.List.AllByRecursion, specs.Vec.with_item, proofs.lemmas.Bool.eqb-true}
use Rattle.std.proofs.lemmas.{Bool.eqb-false, List.Quantifiers.position-Some, List.set_split}
use Rattle.answers.specs.declared.desk.Desk.{Ghosts as DeskOf}
use Rattle.serving.specs.{declared.peers.Peers.Ghosts as PeersOf, TurnLaw.Turn}
use Rattle.guarded.specs.LockedTurns.{Follow}
use Rattle.store.specs.declared.home.Home.{Home}
use Rattle.wire.specs.Ranges.{IsDifference}
use Rattle.wire.specs.declared.{standing.Difference.Difference, values.Version.Version}
use Rattle.multiplex.specs.{Noting.AreNoted, model.Scenes.turned, model.Visiting.place_at}
use Rattle.polled.specs.{Telling.Tells, Happenings.Happened, Happenings.Closed}
use Rattle.multiplex.specs.Passing.{Changed, over_after, over_settled, told_turns, told_why}
use Rattle.multiplex.specs.Passing.{Lobby, Stray, Takes, Visit, lobby, over_by, staying}
use Rattle.multiplex.specs.declared.{dear.DearTurns.DearTurns, table.ServingOptions.ServingOptions}
use Rattle.multiplex.specs.declared.ends.{ServingEnd.ServingEnd, EndReason.EndReason}
use Rattle.multiplex.specs.declared.table.{Guest.Guest, ClientTable.ClientTable}
use Rattle.multiplex.specs.model.Scenes.{Answers, Hosts, IsShut, at_guest, lobby_of, room_of}
use Rattle.multiplex.specs.Scenes.{Scene, in_room, scene}
use Rattle.multiplex.specs.model.Tables.{AreKept, IsKept, has_number}
use Rattle.multiplex.proofs.Placed.{all_as, all_back, all_both, all_front, nowhere, split_at}
use Rattle.multiplex.proofs.Shutting.{all_but, lobby_same, spent_same}
use Rattle.polled.proofs.Telling.{Tells-as, Tells-nil, Tells-trans}
use Rattle.multiplex.specs.declared.ends.ServingEnd.TheVariants as over_is
use Rattle.multiplex.specs.declared.ends.EndReason.TheVariants as why

-- ---- nobody has the number

pub answers_nobody : {V U C : Type 0} (d : DeskOf V) (p : PeersOf U)
    (happened : C → Option (List Happened)) (home : Home) (t : ServingOptions) (k : ℕ)
    (table : ClientTable) (a : Scene V U C) → position (has_number k) table.guests.items ≡ None
    → Answers d p happened home t k None table table a a
answers_nobody d p happened home t k table a none = (
  Changed (Stray k),
  [],
  refl,
  (
    (
      refl,
      all_as (λ g. has_number k g ≡ false) (λ (g : Guest). g.number ≢ k) table.guests.items
          (λ g apart. eqb-false g.number k apart) (nowhere (has_number k) table.guests.items none),
      refl,
    ),
    refl,
    refl,
  ),
  Tells-nil (happened a.clients),
)

-- ---- the table about a client

-- the table about the client at this place, before its turns and behind them
pub record About (table : ClientTable) (place : ℕ) (old new : Guest) (before after : List Guest)
    : Type 0 where
  pub found : table.guests.items ≡ before ++ old ∷ after
  pub put : set table.guests.items place new ≡ before ++ new ∷ after
  pub front : length before ≡ place

pub about : (table : ClientTable) (place : ℕ) (old new : Guest)
    → place < length table.guests.items → old ≡ get_or table.guests.items place old
    → (before : List Guest) × (after : List Guest) × About table place old new before after
about table place old new within is =
    let guests = table.guests.items in
    let split = split_at guests place within in
    let same : old ≡ split.0 = is ∙ split.1.at old in (
      take place guests,
      drop (suc place) guests,
      record {
        found =
            split.1.whole ∙ ap (λ z. take place guests ++ z ∷ drop (suc place) guests) (sym same);
        put = set_split guests place new within;
        front = split.1.front;
      },
    )

-- ---- turns

abbrev pub Visiting : {V U C : Type 0} → DeskOf V → PeersOf U → (C → Option (List Happened))
    → Home → ServingOptions → ℕ → Option EndReason → ClientTable → Lobby → Scene V U C → Scene V U C
    → Type 0
Visiting d p happened home t k fate table left a m =
    (turns : List Turn) × Takes home t (Visit k turns fate) (room_of d p t.wire table None a)
    (in_room d p t.wire left m) × Tells (happened a.clients) (happened m.clients)
    (told_turns k turns ++ told_why k fate)

pub visiting : {V U C : Type 0} (d : DeskOf V) (p : PeersOf U)
    (happened : C → Option (List Happened)) (home : Home) (t : ServingOptions) (k : ℕ)
    (fate : Option EndReason) (table : ClientTable) (old new : Guest) (before after : List Guest)
    (left : Lobby) (a m : Scene V U C) → table.guests.items ≡ before ++ old ∷ after → old.number ≡ k
    → old.talk.talk.wire ≡ t.wire
    → Hosts d p happened table.time fate (turned table.dear.spent table.differs)
    (turned left.spent left.differs) old new a m
    → left ≡ lobby (before ++ (staying fate new ++ after)) table.next table.time table.own
    left.spent left.differs (over_after fate new.talk)
    → Visiting d p happened home t k fate table left a m
visiting d p happened home t k fate table old new before after left a m found number wire h is =
    let goes = h.1.1 in (
      goes.0,
      (
        before,
        after,
        old,
        new,
        record {
          going = refl;
          found = found;
          number = number;
          follow =
              subst (λ w. Follow (place_at d p w (at_guest a old)) goes.0
              (place_at d p w (at_guest m new))) wire goes.1.follow;
          once = goes.1.few;
          shares =
              record {
                messages = h.1.2.messages;
                last = h.1.2.last;
                all = goes.1.begins ∙ h.1.2.all;
                heard = h.1.2.heard;
                shares = h.1.2.shares;
              };
          served = h.1.4;
          heard = h.1.3.heard;
          due = h.1.3.due;
          same = h.0.number ∙ number;
          ready = h.0.ready;
          stands = h.1.5;
          left = is;
        },
      ),
      subst
          (λ n. Tells (happened a.clients) (happened m.clients)
          (told_turns n goes.0 ++ told_why n fate)) number goes.1.told,
    )

-- the client stays
pub answers_stay : {V U C : Type 0} (d : DeskOf V) (p : PeersOf U)
    (happened : C → Option (List Happened)) (home : Home) (t : ServingOptions) (k : ℕ) (place : ℕ)
    (table changed : ClientTable) (old new : Guest) (before after : List Guest) (a m : Scene V U C)
    → About table place old new before after → old.number ≡ k → old.talk.talk.wire ≡ t.wire
    → changed.guests.items ≡ set table.guests.items place new → changed.next ≡ table.next
    → changed.time ≡ table.time → changed.own ≡ table.own
    → Hosts d p happened table.time None (turned table.dear.spent table.differs)
    (turned changed.dear.spent changed.differs) old new a m
    → Answers d p happened home t k None table changed a m
answers_stay d p happened home t k place table changed old new before after a m split number wire
    items next time own h =
    let v = visiting d p happened home t k None table old new before after (lobby_of changed None) a
    m split.found number wire h (lobby_same (items ∙ split.put) next time own refl refl refl) in
    (Visit k v.0 None, told_turns k v.0 ++ [], refl, v.1, v.2)

pub stay_keeps : {V U C : Type 0} (d : DeskOf V) (p : PeersOf U)
    (happened : C → Option (List Happened)) (home : Home) (wire : Version) (place : ℕ)
    (table changed : ClientTable) (old new : Guest) (before after : List Guest) (a m : Scene V U C)
    → About table place old new before after
    → changed.guests.items ≡ set table.guests.items place new
    → Hosts d p happened table.time None (turned table.dear.spent table.differs)
    (turned changed.dear.spent changed.differs) old new a m
    → AreNoted new.notes.known changed.differs → AreKept home wire table → AreKept home wire changed
stay_keeps d p happened home wire place table changed old new before after a m split items h noted
    kept =
    let all = subst (λ z. AllByRecursion (IsKept home wire) z) split.found kept.guests in
    let here = all_back (IsKept home wire) before (old ∷ after) all in
    record {
      guests =
          subst (λ z. AllByRecursion (IsKept home wire) z) (sym (items ∙ split.put))
          (all_both (IsKept home wire) before (new ∷ after)
          (all_front (IsKept home wire) before (old ∷ after) all) (
            record {
              home = h.1.1.1.home ∙ here.0.home;
              wire = h.1.1.1.wire ∙ here.0.wire;
              known = noted.0;
            },
            here.1,
          ));
      differs = noted.1;
    }

-- ---- the client leaves

record SameSplit {X : Type 0} (b c : List X) (x y : X) (r s : List X) : Type 0 where
  fronts : b ≡ c
  here : x ≡ y
  backs : r ≡ s

split_same : {X : Type 0} (b c : List X) (x y : X) (r s : List X)
    → b ++ x ∷ r ≡ c ++ y ∷ s → length b ≡ length c → SameSplit b c x y r s
split_same [] [] x y r s h l = record { fronts = refl; here = cc; backs = cc }
split_same [] (z ∷ c) x y r s h l = absurd (omega (arith, l))
split_same (z ∷ b) [] x y r s h l = absurd (omega (arith, l))
split_same (z ∷ b) (w ∷ c) x y r s h l =
    let tails : b ++ x ∷ r ≡ c ++ y ∷ s = cc in
    let heads : z ≡ w = cc in
    let later = split_same b c x y r s tails (omega (arith, l)) in
    record {
      fronts = ap (λ q. q ∷ b) heads ∙ ap (λ q. w ∷ q) later.fronts;
      here = later.here;
      backs = later.backs;
    }

-- the connection at the place was ended behind the turns
pub record Leaving {C : Type 0} (happened : C → Option (List Happened)) (over : Option ServingEnd)
    (table mid changed : ClientTable) (k : ℕ) (new : Guest) (before after : List Guest)
    (c later : C) : Type 0 where
  pub left : lobby_of changed over
      ≡ lobby (before ++ after) table.next table.time table.own mid.dear.spent mid.differs
      (over_by new.talk.talk.end)
  pub told : Tells (happened c) (happened later) (Closed k ∷ [])

pub leaving : {C : Type 0} (happened : C → Option (List Happened)) (place : ℕ)
    (over : Option ServingEnd) (table mid changed : ClientTable) (old new : Guest)
    (before after : List Guest) (c later : C) → About table place old new before after
    → mid.guests.items ≡ set table.guests.items place new → mid.next ≡ table.next
    → mid.time ≡ table.time → mid.own ≡ table.own → IsShut happened place over mid changed c later
    → Leaving happened over table mid changed new.number new before after c later
leaving happened place over table mid changed old new before after c later split items next time own
    h =
    let same = split_same h.0 before h.2 new h.1 after (sym h.4.found ∙ items ∙ split.put)
    (h.3 ∙ sym split.front) in
    record {
      left =
          lobby_same (h.4.left ∙ ap (λ z. z ++ h.1) same.fronts ∙ ap (λ z. before ++ z) same.backs)
          (h.4.next ∙ next) (h.4.time ∙ time) (h.4.own ∙ own)
          (spent_same changed.dear mid.dear h.4.dear) h.4.differs
          (h.4.ends ∙ ap (λ (z : Guest). over_by z.talk.talk.end) same.here);
      told =
          subst (λ (z : Guest). Tells (happened c) (happened later) (Closed z.number ∷ []))
          same.here h.4.told;
    }

pub answers_leave : {V U C : Type 0} (d : DeskOf V) (p : PeersOf U)
    (happened : C → Option (List Happened)) (home : Home) (t : ServingOptions) (k : ℕ)
    (w : EndReason) (place : ℕ) (over : Option ServingEnd) (table mid changed : ClientTable)
    (old new : Guest) (before after : List Guest) (a : Scene V U C) (node : V) (peers : U)
    (c later : C) → About table place old new before after → old.number ≡ k
    → old.talk.talk.wire ≡ t.wire → mid.guests.items ≡ set table.guests.items place new
    → mid.next ≡ table.next → mid.time ≡ table.time → mid.own ≡ table.own
    → Hosts d p happened table.time (Some w) (turned table.dear.spent table.differs)
    (turned mid.dear.spent mid.differs) old new a (scene node peers c)
    → IsShut happened place over mid changed c later
    → Answers d p happened home t k over table changed a (scene node peers later)
answers_leave d p happened home t k w place over table mid changed old new before after a node
    peers c later split number wire items next time own h shut =
    let gone = leaving happened place over table mid changed old new before after c later split
    items next time own shut in
    let same : changed.dear.spent ≡ mid.dear.spent = ap (λ (l : Lobby). l.spent) gone.left in
    let said : changed.differs ≡ mid.differs = ap (λ (l : Lobby). l.differs) gone.left in
    let v = visiting d p happened home t k (Some w) table old new before after
    (lobby_of changed over) a (scene node peers c) split.found number wire
    (subst (λ s. Hosts d p happened table.time (Some w) (turned table.dear.spent table.differs)
    (turned s changed.differs) old new a (scene node peers c)) (sym same)
    (subst (λ s. Hosts d p happened table.time (Some w) (turned table.dear.spent table.differs)
    (turned mid.dear.spent s) old new a (scene node peers c)) (sym said) h))
    (gone.left ∙ lobby_same refl refl refl refl (sym same) (sym said) refl) in
    let closed =
    subst (λ n. Tells (happened c) (happened later) (Closed n ∷ [])) (h.0.number ∙ number)
    gone.told in (
      Visit k v.0 (Some w),
      told_turns k v.0 ++ (told_why k (Some w) ++ Closed k ∷ []),
      refl,
      v.1,
      Tells-as (happened a.clients) (happened later) _ _
          (append_assoc (told_turns k v.0) (told_why k (Some w)) (Closed k ∷ []))
          (Tells-trans (happened a.clients) (happened c) (happened later) _ _ v.2 closed),
    )

pub leave_keeps : {C : Type 0} (happened : C → Option (List Happened)) (home : Home)
    (wire : Version) (place : ℕ) (over : Option ServingEnd) (table mid changed : ClientTable)
    (old new : Guest) (before after : List Guest) (c later : C)
    → About table place old new before after → mid.guests.items ≡ set table.guests.items place new
    → mid.next ≡ table.next → mid.time ≡ table.time → mid.own ≡ table.own
    → IsShut happened place over mid changed c later → IsDifference mid.differs
    → AreKept home wire table → AreKept home wire changed
leave_keeps happened home wire place over table mid changed old new before after c later split
    items next time own shut differs kept =
    let gone = leaving happened place over table mid changed old new before after c later split
    items next time own shut in
    record {
      guests =
          subst (λ (l : Lobby). AllByRecursion (IsKept home wire) l.guests) (sym gone.left)
          (all_but (IsKept home wire) before old after
          (subst (λ z. AllByRecursion (IsKept home wire) z) split.found kept.guests));
      differs = subst (λ (l : Lobby). IsDifference l.differs) (sym gone.left) differs;
    }

-- ---- what was changed is settled then

pub over_on : (ok : Bool) → ((ok ≡ false) ↔ (None ≡ Some why.Over)) → None ≡ over_settled ok None
over_on true h = refl
over_on false h = let n : None ≡ Some why.Over = h.0 refl in absurd cc

pub over_kept : (ok : Bool) (w : EndReason) (over : Option ServingEnd)
    → ((ok ≡ false) ↔ (Some w ≡ Some why.Over)) → (w ≡ why.Over → ⊥) → over ≡ over_settled ok over
over_kept true w over h other = refl
over_kept false w over h other =
    let n : Some w ≡ Some why.Over = h.0 refl in absurd (other cc)

pub over_down : (ok : Bool) (w : EndReason) (over : Option ServingEnd)
    → ((ok ≡ false) ↔ (Some w ≡ Some why.Over)) → w ≡ why.Over
    → Some over_is.Down ≡ over_settled ok over
over_down ok w over h is = ap (λ z. over_settled z over) (sym (h.1 (ap Some is)))

-- ---- where a client stands that has this number

pub record Stands (home : Home) (wire : Version) (k : ℕ) (table : ClientTable) (place : ℕ)
    (old : Guest) : Type 0 where
  pub within : place < length table.guests.items
  pub number : old.number ≡ k
  pub same : old.talk.talk.wire ≡ wire

pub stands : (home : Home) (wire : Version) (k : ℕ) (table : ClientTable) (place : ℕ) (old : Guest)
    → position (has_number k) table.guests.items ≡ Some place
    → old ≡ get_or table.guests.items place old → AreKept home wire table
    → Stands home wire k table place old
stands home wire k table place old found is kept =
    let guests = table.guests.items in
    let here = position-Some (has_number k) guests place old found in
    let split = about table place old old here.0 is in
    let both = all_back (IsKept home wire) split.0 (old ∷ split.1)
    (subst (λ z. AllByRecursion (IsKept home wire) z) split.2.found kept.guests) in
    record {
      within = here.0;
      number = eqb-true old.number k (subst (λ z. has_number k z ≡ true) (sym is) here.1);
      same = both.0.wire;
    }

-- that client, and the table about it before its turns and behind them
pub record Met (wire : Version) (k : ℕ) (table : ClientTable) (place : ℕ)
    (old new : Guest) : Type 0 where
  pub before : List Guest
  pub after : List Guest
  pub split : About table place old new before after
  pub number : old.number ≡ k
  pub same : old.talk.talk.wire ≡ wire

pub met : (home : Home) (wire : Version) (k : ℕ) (table : ClientTable) (place : ℕ) (old new : Guest)
    → position (has_number k) table.guests.items ≡ Some place
    → old ≡ get_or table.guests.items place old → AreKept home wire table
    → Met wire k table place old new
met home wire k table place old new found is kept =
    let at = stands home wire k table place old found is kept in
    let split = about table place old new at.within is in
    record {
      before = split.0;
      after = split.1;
      split = split.2;
      number = at.number;
      same = at.same;
    }

-- the table with the client behind its turns
abbrev pub visited : ClientTable → ℕ → Guest → DearTurns → Option Difference → ClientTable
visited table place new dear differs =
    record {
      guests = with_item table.guests place new;
      next = table.next;
      time = table.time;
      own = table.own;
      dear = dear;
      differs = differs;
      said = table.said;
    }
