-- The steps of many clients are turns of many connections, each behind its door.
use Rattle.std.proofs.Common.{◌≡◌, ◌≢◌, refl, sym, ap, subst, ◌∙◌, ℕ, ◌+◌, List, [], ◌∷◌, ◌++◌}
use Rattle.std.proofs.Common.{append-nil, append_assoc, Option, None, Some, arith, Bool, true}
use Rattle.std.proofs.Common.{false, cond, eqb}
use Rattle.std.{proofs.lemmas.Bool.eqb-false, proofs.lemmas.Bool.eqb-true, specs.Prelude.IsSome}
use Rattle.answers.specs.{declared.desk.Desk.Ghosts as DeskOf, Seen.Seen}
use Rattle.connections.specs.Connections.{AreServedInTurn, Connections, FollowEach, MakesSome}
use Rattle.connections.specs.Connections.{Point, Served, TurnOf, begun_of, place_of, served_of}
use Rattle.connections.specs.Connections.{turns_of}
use Rattle.connections.proofs.Interleaving.{HoldsSome, goes_on, makes_all}
use Rattle.guarded.specs.LockedConnections.{LockedConnectionOf, fresh_locked_connection}
use Rattle.guarded.{specs.LockedTurns.within, proofs.Keeping.Keeps}
use Rattle.guarded.proofs.Holding.{GoesAll, turns_go}
use Rattle.sealed.specs.declared.callers.Access.{Access}
use Rattle.serving.specs.{Connection.Begun, Connection.serve_frame, Making.Outside, Making.Way}
use Rattle.serving.specs.{OwnTicks.tick_begun, Turns.Talk, TurnLaw.Took as TookOf}
use Rattle.serving.specs.TurnLaw.{Follow, Place, Turn, Turns, begun_in, handed_out, received}
use Rattle.serving.proofs.Makings.{Makes-nil, Makes-trans}
use Rattle.store.specs.declared.home.Home.{Home}
use Rattle.multiplex.specs.EachClient.{AreDoneInTurn, Frame, own_ticks, sides_at, ticks_of, took}
use Rattle.multiplex.specs.EachClient.{Deed, MakesBetween, Settling, came_with, frames_in, gave}
use Rattle.multiplex.specs.{EachClient.EachClientIsServed, Passing.told_why, Passing.with_node}
use Rattle.multiplex.{specs.EachClient.OwnTick, specs.Noting.fresh_notes, proofs.Placed.all_back}
use Rattle.polled.specs.Happenings.{Closed, Happened, Round, Took}
use Rattle.multiplex.specs.Passing.{Change, Changed, Changes, Clock, Comes, Lobby, NoSocket, Pass}
use Rattle.multiplex.specs.Passing.{Room, Shut, Step, Stops, Stray, Takes, TakesLast, Ticked}
use Rattle.multiplex.specs.Passing.{Settles, TicksBy, TurnedAway, Unwatched, Visit, Visits, guest}
use Rattle.multiplex.specs.Passing.{lobby, point_in, staying, told, told_all, told_change, told_end}
use Rattle.multiplex.specs.declared.ends.{ServingEnd.ServingEnd, EndReason.EndReason}
use Rattle.multiplex.specs.declared.table.{Guest.Guest, ServingOptions.ServingOptions}
use Rattle.multiplex.proofs.Behind.{Behind, EachBehind, KeptBy, came_behind, client_of, kept_as}
use Rattle.multiplex.proofs.Behind.{more_behind, nothing_behind, still_behind}
use Rattle.multiplex.proofs.Giving.{Gives, end_gives, frames-both, turns_give}
use Rattle.multiplex.proofs.Seating.{Hosted, Stands, StandsIn, arrives, leaves, one_more, put}
use Rattle.multiplex.proofs.Seating.{put_other, put_same, stands_told, stays}
use Rattle.guarded.specs.LockedTurns as GuardTurns
use Rattle.multiplex.specs.declared.ends.ServingEnd.TheVariants as over

-- ---- one connection of many has its turns

abbrev numbered : ℕ → List Turn → List TurnOf
numbered k [] = []
numbered k (t ∷ ts) = record { number = k; turn = t } ∷ numbered k ts

-- the turns of one connection are its own, and no other one's
turns_numbered : (k j : ℕ) (own : Bool) → eqb j k ≡ own → (ts : List Turn)
    → turns_of k (numbered j ts) ≡ cond own ts []
turns_numbered k j own is [] = no_turns own [] refl
  where
    no_turns : (own : Bool) (ts : List Turn) → ts ≡ [] → ts ≡ cond own [] []
    no_turns true ts none = none
    no_turns false ts none = none
turns_numbered k j own is (t ∷ ts) =
    ap (λ b. cond b (t ∷ turns_of k (numbered j ts)) (turns_of k (numbered j ts))) is
    ∙ pick own (turns_numbered k j own is ts)
  where
    pick : (own : Bool) → turns_of k (numbered j ts) ≡ cond own ts []
        → cond own (t ∷ turns_of k (numbered j ts)) (turns_of k (numbered j ts))
        ≡ cond own (t ∷ ts) []
    pick true later = ap (λ z. t ∷ z) later
    pick false later = later

abbrev conns : {V : Type 0} {way : Way V} → (ℕ → Talk) → Seen → Outside way → Connections way
conns talks seen outside = record { talks = talks; seen = seen; outside = outside }

record Went {V : Type 0} {way : Way V} (k : ℕ) (talks : ℕ → Talk) (p q : Place way)
    (turns : List Turn) (new : ℕ → Talk) : Type 0 where
  follow : FollowEach (conns talks p.seen p.outside) (numbered k turns) (conns new q.seen q.outside)
  at : new k ≡ q.talk
  rest : (j : ℕ) → j ≢ k → new j ≡ talks j

went : {V : Type 0} {way : Way V} (k : ℕ) (talks : ℕ → Talk) (p q : Place way)
    (turns : List Turn) → talks k ≡ p.talk → Follow p turns q
    → (new : ℕ → Talk) × Went k talks p q turns new
went {V} {way} k talks p q [] at h =
    subst (λ z. (new : ℕ → Talk) × Went k talks p z [] new) h
    (talks, record { follow = refl; at = at; rest = λ j _. refl })
went {V} {way} k talks p q (t ∷ ts) at h =
    let m = h.0 in
    let mid = put k m.talk talks in
    let later = went k mid m q ts (put_same k m.talk talks) h.2 in (
      later.0,
      record {
        follow = (
          conns mid m.seen m.outside,
          record {
            turn =
                subst (λ z. Turns t (record { talk = z; seen = p.seen; outside = p.outside })
                (place_of (conns mid m.seen m.outside) k)) (sym at) (subst
                (λ z. Turns t p (record { talk = z; seen = m.seen; outside = m.outside }))
                (sym (put_same k m.talk talks)) h.1);
            others = put_other k m.talk talks;
          },
          later.1.follow,
        );
        at = later.1.at;
        rest = λ j apart. later.1.rest j apart ∙ put_other k m.talk talks j apart;
      },
    )

-- ---- what a step leads to

-- What is told of it grows by these. These deeds were done, and so it is with each client.
record Led {V : Type 0} {way : Way V} (home : Home) (t : ServingOptions) (before : List Happened)
    (frames : List Served) (a b : Room way) (js : List Happened) (ticks : List Bool)
    (deeds : List Deed) (new : ℕ → LockedConnectionOf) : Type 0 where
  done : AreDoneInTurn home (point_in a) deeds (point_in b)
  own : own_ticks deeds ≡ ticks
  stands : StandsIn home t.wire (before ++ js) new b.lobby
  each : EachBehind home t.doors (before ++ js) (frames ++ frames_in deeds) new

abbrev LedSome : {V : Type 0} → {way : Way V} → Home → ServingOptions → List Happened → List Served
    → Room way → Room way → List Happened → List Bool → Type 0
LedSome home t before frames a b js ticks =
    (deeds : List Deed) × (new : ℕ → LockedConnectionOf)
    × Led home t before frames a b js ticks deeds new

point_same : {V : Type 0} {way : Way V} (a b : Room way) → b.seen ≡ a.seen
    → b.outside ≡ a.outside → point_in a ≡ point_in b
point_same a b seen outside = cc

-- nothing came of any client
stays_so : {V : Type 0} {way : Way V} (home : Home) (t : ServingOptions) (before : List Happened)
    (frames : List Served) (guards : ℕ → LockedConnectionOf) (a b : Room way) (js : List Happened)
    → b.seen ≡ a.seen → b.outside ≡ a.outside → ((k : ℕ) → Gives k js [] [])
    → StandsIn home t.wire before guards b.lobby → EachBehind home t.doors before frames guards
    → LedSome home t before frames a b js []
stays_so home t before frames guards a b js seen outside gives stands each = (
  [],
  guards,
  record {
    done = point_same a b seen outside;
    own = refl;
    stands =
        stands_told home t.wire before js guards b.lobby.guests b.lobby.next
        (λ k. (gives k).earlier) stands;
    each = λ k. still_behind home t.doors k before js frames [] (guards k) (gives k) refl (each k);
  },
)

round_gives : (now k : ℕ) → Gives k (Round now ∷ []) [] []
round_gives now k = record { gave = refl; took = refl; earlier = refl }

-- ---- a client has turns

some_is : (o : Option (List ℕ)) → IsSome o → (x : List ℕ) × (o ≡ Some x)
some_is None there = absurd cc
some_is (Some x) there = (x, refl)

-- its own stream goes on with its turns
kept_own : {V : Type 0} {way : Way V} (doors : Access) (server : List ℕ) (o : Option (List ℕ))
    (g : LockedConnectionOf) (turns inner : List Turn) (p q : GuardTurns.Place way)
    (came handed answers sent : List ℕ) (begun : List Begun) → o ≡ Some server → g ≡ p.guard
    → GoesAll doors server turns p q inner → KeptBy o doors g came handed answers sent begun
    → KeptBy o doors q.guard (came ++ received turns) (handed ++ received inner)
    (answers ++ handed_out inner) (sent ++ handed_out turns) (begun ++ begun_in turns)
kept_own doors server o g turns inner p q came handed answers sent begun is at goes kept =
    let was = subst (λ z. KeptBy z doors g came handed answers sent begun) is kept in
    subst (λ z. KeptBy z doors q.guard (came ++ received turns) (handed ++ received inner)
    (answers ++ handed_out inner) (sent ++ handed_out turns) (begun ++ begun_in turns)) (sym is)
    (goes.keeps came handed answers sent begun
    (subst (λ z. Keeps doors server z came handed answers sent begun) at was))

-- each other one's is as it was
kept_other : (doors : Access) (o : Option (List ℕ)) (g : LockedConnectionOf)
    (came handed answers sent : List ℕ) (begun : List Begun)
    → KeptBy o doors g came handed answers sent begun
    → KeptBy o doors g (came ++ []) (handed ++ []) (answers ++ []) (sent ++ []) (begun ++ [])
kept_other doors o g came handed answers sent begun kept =
    kept_as doors g o o came (came ++ []) handed (handed ++ []) answers (answers ++ []) sent
    (sent ++ []) begun (begun ++ []) refl (sym (append-nil came)) (sym (append-nil handed))
    (sym (append-nil answers)) (sym (append-nil sent)) (sym (append-nil begun)) kept

-- so it is with each client
visited : {V : Type 0} {way : Way V} (home : Home) (doors : Access) (server : List ℕ)
    (before js : List Happened) (frames fs : List Served) (guards : ℕ → LockedConnectionOf) (k : ℕ)
    (turns inner : List Turn) (p q : GuardTurns.Place way) (new : ℕ → Talk)
    (each : EachBehind home doors before frames guards)
    → came_with k before ≡ Some server → guards k ≡ p.guard → new k ≡ q.guard.talk
    → ((j : ℕ) → j ≢ k → new j ≡ (guards j).talk) → ((j : ℕ) (own : Bool) → eqb k j ≡ own
    → Gives j js (cond own (received turns) []) (cond own (handed_out turns) []))
    → GoesAll doors server turns p q inner
    → ((j : ℕ) → HoldsSome home ((each j).handed ++ received (turns_of j (numbered k inner)))
    ((each j).answers ++ handed_out (turns_of j (numbered k inner)))
    (served_of j frames ++ served_of j fs) (new j))
    → ((j : ℕ) → begun_of (served_of j fs) ≡ begun_in (turns_of j (numbered k inner)))
    → EachBehind home doors (before ++ js) (frames ++ fs) (put k q.guard guards)
visited home doors server before js frames fs guards k turns inner p q new each came at moved rest
    gives goes holds begins j = pick (eqb k j) refl
  where
    pick : (own : Bool) → eqb k j ≡ own
        → Behind home doors j (before ++ js) (frames ++ fs) (cond own q.guard (guards j))
    pick true is =
        let same : k ≡ j = eqb-true k j is in
        let mine : turns_of j (numbered k inner) ≡ inner = turns_numbered j k true is inner in
        let h = each j in
        more_behind home doors j before js frames fs (guards j) q.guard (received turns)
        (handed_out turns) (received inner) (handed_out inner) (begun_in turns) h (gives j true is)
        (begins j ∙ ap (λ z. begun_in z) mine ∙ goes.begins)
        (subst (λ z. HoldsSome home (h.handed ++ received inner) (h.answers ++ handed_out inner)
        (served_of j frames ++ served_of j fs) z) (ap new (sym same) ∙ moved)
        (subst (λ z. HoldsSome home (h.handed ++ received z) (h.answers ++ handed_out z)
        (served_of j frames ++ served_of j fs) (new j)) mine (holds j)))
        (kept_own doors server (came_with j before) (guards j) turns inner p q (gave j before)
        h.handed h.answers (took j before) (begun_of (served_of j frames))
        (ap (λ z. came_with z before) (sym same) ∙ came) (ap guards (sym same) ∙ at) goes h.kept)
    pick false is =
        let apart : k ≢ j = eqb-false k j is in
        let mine : turns_of j (numbered k inner) ≡ [] = turns_numbered j k false is inner in
        let h = each j in
        more_behind home doors j before js frames fs (guards j) (guards j) [] [] [] [] [] h
        (gives j false is) (begins j ∙ ap (λ z. begun_in z) mine)
        (subst (λ z. HoldsSome home (h.handed ++ []) (h.answers ++ [])
        (served_of j frames ++ served_of j fs) z) (rest j (λ e. apart (sym e)))
        (subst (λ z. HoldsSome home (h.handed ++ received z) (h.answers ++ handed_out z)
        (served_of j frames ++ served_of j fs) (new j)) mine (holds j)))
        (kept_other doors (came_with j before) (guards j) (gave j before) h.handed h.answers
        (took j before) (begun_of (served_of j frames)) h.kept)

-- frames of clients, or, where so, of the desk to itself
abbrev as_deeds : Bool → List Served → List Deed
as_deeds own [] = []
as_deeds own (f ∷ fs) = Frame own f ∷ as_deeds own fs

frames_of_deeds : (fs : List Served) → frames_in (as_deeds false fs) ≡ fs
frames_of_deeds [] = refl
frames_of_deeds (f ∷ fs) = ap (λ z. f ∷ z) (frames_of_deeds fs)

none_of_clients : (fs : List Served) → frames_in (as_deeds true fs) ≡ []
none_of_clients [] = refl
none_of_clients (f ∷ fs) = none_of_clients fs

no_own_ticks : (own : Bool) (fs : List Served) → own_ticks (as_deeds own fs) ≡ []
no_own_ticks own [] = refl
no_own_ticks own (f ∷ fs) = no_own_ticks own fs

done_frames : {V : Type 0} {way : Way V} (home : Home) (a b : Point way) (own : Bool)
    (fs : List Served) → AreServedInTurn home a fs b → AreDoneInTurn home a (as_deeds own fs) b
done_frames home a b own [] h = h
done_frames home a b own (f ∷ fs) h =
    (h.0, (h.0, h.1, refl), done_frames home h.0 b own fs h.2)

own_both : (ds es : List Deed) → own_ticks (ds ++ es) ≡ own_ticks ds ++ own_ticks es
own_both [] es = refl
own_both (Frame own f ∷ ds) es = own_both ds es
own_both (OwnTick starved ∷ ds) es = ap (λ z. starved ∷ z) (own_both ds es)
own_both (Settling ok ∷ ds) es = own_both ds es

done_both : {V : Type 0} {way : Way V} (home : Home) (a m b : Point way) (ds es : List Deed)
    → AreDoneInTurn home a ds m → AreDoneInTurn home m es b → AreDoneInTurn home a (ds ++ es) b
done_both home a m b [] es h k = subst (λ z. AreDoneInTurn home z es b) (sym h) k
done_both home a m b (Frame own f ∷ ds) es h k = (h.0, h.1, done_both home h.0 m b ds es h.2 k)
done_both home a m b (OwnTick starved ∷ ds) es h k =
    (h.0, h.1, done_both home h.0 m b ds es h.2 k)
done_both home a m b (Settling ok ∷ ds) es h k = (h.0, h.1, done_both home h.0 m b ds es h.2 k)

-- One client had these turns, of which this is told. It stays, or leaves.
after_turns : {V : Type 0} {way : Way V} (home : Home) (t : ServingOptions) (before : List Happened)
    (frames : List Served) (guards : ℕ → LockedConnectionOf) (k : ℕ) (turns : List Turn)
    (js : List Happened) (a b : Room way) (front behind : List Guest) (old new : Guest)
    → StandsIn home t.wire before guards a.lobby → EachBehind home t.doors before frames guards
    → a.lobby.guests ≡ front ++ old ∷ behind → old.number ≡ k → new.number ≡ k
    → GuardTurns.Follow (with_node a old.talk) turns (with_node b new.talk)
    → ((j : ℕ) (own : Bool) → eqb k j ≡ own
    → Gives j js (cond own (received turns) []) (cond own (handed_out turns) []))
    → (Stands home t.wire (before ++ js) (put k new.talk guards) (front ++ new ∷ behind)
    a.lobby.next → StandsIn home t.wire (before ++ js) (put k new.talk guards) b.lobby)
    → LedSome home t before frames a b js []
after_turns home t before frames guards k turns js a b front behind old new s each found was same
    follow gives left =
    let next = a.lobby.next in
    let there = subst (λ z. Stands home t.wire before guards z next) found s in
    let here = (all_back (Hosted before guards) front (old ∷ behind) there.hosted).0 in
    let at : guards k ≡ old.talk = ap guards (sym was) ∙ here.at in
    let seed =
    some_is (came_with k before) (subst (λ (n : ℕ). IsSome (came_with n before)) was here.came) in
    let p = with_node a old.talk in
    let q = with_node b new.talk in
    let go = turns_go t.doors seed.0 turns p q follow in
    let talks = λ (j : ℕ). (guards j).talk in
    let moved = went k talks (within p) (within q) go.0 (ap (λ (g : LockedConnectionOf). g.talk) at)
    go.1.follow in
    let after = goes_on home (λ (j : ℕ). (each j).handed) (λ (j : ℕ). (each j).answers)
    (λ (j : ℕ). served_of j frames) (numbered k go.0) (conns talks a.seen a.outside)
    (conns moved.0 b.seen b.outside) (λ (j : ℕ). (each j).holds) moved.1.follow in
    let kept = stands_told home t.wire before js (put k new.talk guards) (front ++ new ∷ behind)
    next (λ j. (gives j (eqb k j) refl).earlier)
    (stays home t.wire before guards k front old new behind next was same there) in (
      as_deeds false after.0,
      put k new.talk guards,
      record {
        done = done_frames home (point_in a) (point_in b) false after.0 after.1;
        own = no_own_ticks false after.0;
        stands = left kept;
        each =
            subst
            (λ z. EachBehind home t.doors (before ++ js) (frames ++ z) (put k new.talk guards))
            (sym (frames_of_deeds after.0))
            (visited home t.doors seed.0 before js frames after.0 guards k turns go.0 p q moved.0
            each seed.1 at moved.1.at moved.1.rest gives go.1 after.2 after.3);
      },
    )

-- ---- a change of which the node knows nothing

nothing_gives : (k : ℕ) → Gives k [] [] []
nothing_gives k = record { gave = refl; took = refl; earlier = refl }

closed_gives : (j k : ℕ) → Gives k (Closed j ∷ []) [] []
closed_gives j k = record { gave = refl; took = refl; earlier = refl }

stop_gives : (e : ServingEnd) (k : ℕ) → Gives k (told_change (Stops e)) [] []
stop_gives over.All k = record { gave = refl; took = refl; earlier = refl }
stop_gives _ k = record { gave = refl; took = refl; earlier = refl }

-- a client came
record Arrived (home : Home) (t : ServingOptions) (before : List Happened) (frames : List Served)
    (b : Lobby) (js : List Happened) (new : ℕ → LockedConnectionOf) : Type 0 where
  stands : StandsIn home t.wire (before ++ js) new b
  each : EachBehind home t.doors (before ++ js) (frames ++ []) new

arrived : {V : Type 0} {way : Way V} (home : Home) (t : ServingOptions) (before : List Happened)
    (frames : List Served) (a b : Room way) (js : List Happened) (new : ℕ → LockedConnectionOf)
    → b.seen ≡ a.seen → b.outside ≡ a.outside → Arrived home t before frames b.lobby js new
    → LedSome home t before frames a b js []
arrived home t before frames a b js new seen outside h = (
  [],
  new,
  record {
    done = point_same a b seen outside;
    own = refl;
    stands = h.stands;
    each = h.each;
  },
)

after_change : {V : Type 0} {way : Way V} (home : Home) (t : ServingOptions)
    (before : List Happened) (frames : List Served) (guards : ℕ → LockedConnectionOf) (c : Change)
    (a b : Room way) → b.seen ≡ a.seen → b.outside ≡ a.outside → Changes home t c a.lobby b.lobby
    → StandsIn home t.wire before guards a.lobby → EachBehind home t.doors before frames guards
    → LedSome home t before frames a b (told_change c) []
after_change home t before frames guards (Comes k random) a b seen outside h s each =
    let l = a.lobby in
    let new = fresh_locked_connection t.doors random home t.wire in
    let notes = fresh_notes h.0 in
    let left : b.lobby ≡ lobby (l.guests ++ guest l.next new notes l.time ∷ []) (l.next + 1) l.time
    l.own l.spent l.differs None = subst (λ n. b.lobby ≡ lobby
    (l.guests ++ guest n new notes l.time ∷ []) (l.next + 1) l.time l.own l.spent l.differs None)
    h.1.number h.1.enters in
    arrived home t before frames a b (told_change (Comes k random)) (put k new guards) seen outside
    (subst
    (λ n. Arrived home t before frames b.lobby (told_change (Comes n random)) (put n new guards))
    (sym h.1.number) (record {
      stands =
          subst (λ (z : Lobby). StandsIn home t.wire (before ++ told_change (Comes l.next random))
          (put l.next new guards) z) (sym left)
          (one_more home t.wire t.doors random before guards l.guests l.next notes l.time s);
      each =
          came_behind home t.wire t.doors random l.next before [] frames guards
          (s.fresh l.next (omega arith)) nothing_gives each;
    }))
after_change home t before frames guards (TurnedAway k random) a b seen outside h s each =
    let l = a.lobby in
    let new = fresh_locked_connection t.doors random home t.wire in
    arrived home t before frames a b (told_change (TurnedAway k random)) (put k new guards) seen
    outside (subst (λ n. Arrived home t before frames b.lobby (told_change (TurnedAway n random))
    (put n new guards)) (sym h.number) (record {
      stands =
          subst (λ (z : Lobby). StandsIn home t.wire
          (before ++ told_change (TurnedAway l.next random)) (put l.next new guards) z)
          (sym h.enters) (subst (λ z. Stands home t.wire
          (before ++ told_change (TurnedAway l.next random)) (put l.next new guards) z (l.next + 1))
          (sym (append-nil l.guests)) (arrives home t.wire t.doors random before
          (Closed l.next ∷ []) guards l.guests l.next (λ k. refl) s));
      each =
          came_behind home t.wire t.doors random l.next before (Closed l.next ∷ []) frames guards
          (s.fresh l.next (omega arith)) (closed_gives l.next) each;
    }))
after_change home t before frames guards NoSocket a b seen outside h s each =
    stays_so home t before frames guards a b (told_change NoSocket) seen outside
    (λ k. record { gave = refl; took = refl; earlier = refl })
    (subst (λ (l : Lobby). StandsIn home t.wire before guards l) (sym h.1) s) each
after_change home t before frames guards (Unwatched j) a b seen outside h s each =
    stays_so home t before frames guards a b (told_change (Unwatched j)) seen outside
    (λ k. record { gave = refl; took = refl; earlier = refl })
    (subst (λ (l : Lobby). StandsIn home t.wire before guards l) (sym h.1) s) each
after_change home t before frames guards (Stray j) a b seen outside h s each =
    stays_so home t before frames guards a b (told_change (Stray j)) seen outside
    (λ k. record { gave = refl; took = refl; earlier = refl })
    (subst (λ (l : Lobby). StandsIn home t.wire before guards l) (sym h.2) s) each
after_change home t before frames guards (TakesLast j None) a b seen outside h s each =
    stays_so home t before frames guards a b (told_change (TakesLast j None)) seen outside
    (λ k. record { gave = refl; took = refl; earlier = refl })
    (subst (λ (l : Lobby). StandsIn home t.wire before guards l) (sym h.1) s) each
after_change home t before frames guards (TakesLast j (Some bytes)) a b seen outside h s each =
    let new = h.3 in
    let k = h.4 in
    after_turns home t before frames guards j (TookOf bytes ∷ []) (Took j bytes ∷ []) a b h.0 h.1
    h.2 new s each k.found k.number (ap (λ (g : Guest). g.number) k.same ∙ k.number) (
      with_node b new.talk,
      (
        k.front,
        ap (λ (g : Guest). g.talk) k.same,
        record { seen = seen; outside = outside },
      ),
      refl,
    )
    (λ i own is. turns_give i j own is (TookOf bytes ∷ []) [] (nothing_gives i))
    (λ kept.
    subst (λ (l : Lobby). StandsIn home t.wire (before ++ Took j bytes ∷ []) (put j new.talk guards)
    l) (sym k.left) kept)
after_change home t before frames guards (Shut j w) a b seen outside h s each =
    stays_so home t before frames guards a b (told_change (Shut j w)) seen outside (closed_gives j)
    (subst (λ (l : Lobby). StandsIn home t.wire before guards l) (sym h.3.left)
    (leaves home t.wire before guards h.0 h.2 h.1 a.lobby.next
    (subst (λ z. Stands home t.wire before guards z a.lobby.next) h.3.found s))) each
after_change home t before frames guards (Stops e) a b seen outside h s each =
    stays_so home t before frames guards a b (told_change (Stops e)) seen outside (stop_gives e)
    (subst (λ (l : Lobby). StandsIn home t.wire before guards l) (sym h.2) s) each

-- ---- a client that is ready

visit_gives : (k : ℕ) (turns : List Turn) (fate : Option EndReason) (j : ℕ) (own : Bool)
    → eqb k j ≡ own → Gives j (told (Visit k turns fate)) (cond own (received turns) [])
    (cond own (handed_out turns) [])
visit_gives k turns fate j own is =
    let h = turns_give j k own is turns (told_why k fate ++ told_end k fate) (end_gives j k fate) in
    record { gave = h.gave; took = h.took; earlier = h.earlier }

after_visit : {V : Type 0} {way : Way V} (home : Home) (t : ServingOptions) (before : List Happened)
    (frames : List Served) (guards : ℕ → LockedConnectionOf) (k : ℕ) (turns : List Turn)
    (fate : Option EndReason) (a b : Room way) (front behind : List Guest) (old new : Guest)
    → StandsIn home t.wire before guards a.lobby → EachBehind home t.doors before frames guards
    → Visits k turns fate a b front behind old new
    → LedSome home t before frames a b (told (Visit k turns fate)) []
after_visit home t before frames guards k turns fate a b front behind old new s each h =
    after_turns home t before frames guards k turns (told (Visit k turns fate)) a b front behind old
    new s each h.found h.number h.same h.follow (visit_gives k turns fate)
    (λ kept. subst (λ (l : Lobby). StandsIn home t.wire (before ++ told (Visit k turns fate))
    (put k new.talk guards) l) (sym h.left) (left fate kept))
  where
    left : (f : Option EndReason)
        → Stands home t.wire (before ++ told (Visit k turns fate)) (put k new.talk guards)
        (front ++ new ∷ behind) a.lobby.next
        → Stands home t.wire (before ++ told (Visit k turns fate)) (put k new.talk guards)
        (front ++ (staying f new ++ behind)) a.lobby.next
    left None s = s
    left (Some w) s =
        leaves home t.wire (before ++ told (Visit k turns fate)) (put k new.talk guards) front new
        behind a.lobby.next s

-- ---- step by step

after_step : {V : Type 0} {way : Way V} (home : Home) (t : ServingOptions) (before : List Happened)
    (frames : List Served) (guards : ℕ → LockedConnectionOf) (s : Step) (a b : Room way)
    → StandsIn home t.wire before guards a.lobby → EachBehind home t.doors before frames guards
    → Takes home t s a b → LedSome home t before frames a b (told s) (ticks_of (s ∷ []))
after_step home t before frames guards (Changed c) a b stands each h =
    after_change home t before frames guards c a b h.1 h.2 h.0 stands each
after_step home t before frames guards (Clock now) a b stands each h =
    stays_so home t before frames guards a b (Round now ∷ []) h.seen h.outside (round_gives now)
    (subst (λ (l : Lobby). StandsIn home t.wire before guards l) (sym h.left) stands) each
after_step home t before frames guards (Ticked now starved) a b stands each h = (
  OwnTick starved ∷ [],
  guards,
  record {
    done = (point_in b, h.tick, refl);
    own = refl;
    stands =
        subst (λ (l : Lobby). StandsIn home t.wire (before ++ Round now ∷ []) guards l) (sym h.left)
        (stands_told home t.wire before (Round now ∷ []) guards a.lobby.guests a.lobby.next
        (λ k. refl) stands);
    each = λ k.
        still_behind home t.doors k before (Round now ∷ []) frames [] (guards k) (round_gives now k)
        refl (each k);
  },
)
after_step home t before frames guards (Visit k turns fate) a b stands each h =
    after_visit home t before frames guards k turns fate a b h.0 h.1 h.2 h.3 stands each h.4
after_step home t before frames guards (Settles heard ok) a b stands each h =
    let deeds = as_deeds true heard in
    let last : List Deed = Settling ok ∷ [] in
    let none : frames_in (deeds ++ last) ≡ [] =
    frames-both deeds last ∙ ap (λ z. z ++ []) (none_of_clients heard) in (
      deeds ++ last,
      guards,
      record {
        done =
            done_both home (point_in a) h.between (point_in b) deeds last
            (done_frames home (point_in a) h.between true heard h.hears)
            (point_in b, (h.seen, h.node, h.handed), refl);
        own = own_both deeds last ∙ ap (λ z. z ++ []) (no_own_ticks true heard);
        stands =
            subst (λ (l : Lobby). StandsIn home t.wire (before ++ []) guards l) (sym h.left)
            (stands_told home t.wire before [] guards a.lobby.guests a.lobby.next (λ k. refl)
            stands);
        each = λ k.
            still_behind home t.doors k before [] frames (frames_in (deeds ++ last)) (guards k)
            (nothing_gives k) (ap (λ z. served_of k z) none) (each k);
      },
    )

-- ---- all steps

ticks_first : (s : Step) (ss : List Step) → ticks_of (s ∷ []) ++ ticks_of ss ≡ ticks_of (s ∷ ss)
ticks_first (Changed c) ss = refl
ticks_first _ ss = refl

after_steps : {V : Type 0} {way : Way V} (home : Home) (t : ServingOptions) (before : List Happened)
    (frames : List Served) (guards : ℕ → LockedConnectionOf) (ss : List Step) (a b : Room way)
    → StandsIn home t.wire before guards a.lobby → EachBehind home t.doors before frames guards
    → Pass home t a ss b → LedSome home t before frames a b (told_all ss) (ticks_of ss)
after_steps {V} {way} home t before frames guards [] a b s each h =
    subst (λ (z : Room way). LedSome home t before frames a z [] []) h
    (stays_so home t before frames guards a a [] refl refl nothing_gives s each)
after_steps home t before frames guards (x ∷ ss) a b s each h =
    let first = after_step home t before frames guards x a h.0 s each h.1 in
    let now = before ++ told x in
    let begun = frames ++ frames_in first.0 in
    let more = after_steps home t now begun first.1 ss h.0 b first.2.stands first.2.each h.2 in
    let parts = append_assoc before (told x) (told_all ss) in
    let all : begun ++ frames_in more.0 ≡ frames ++ frames_in (first.0 ++ more.0) =
    append_assoc frames (frames_in first.0) (frames_in more.0)
    ∙ ap (λ z. frames ++ z) (sym (frames-both first.0 more.0)) in (
      first.0 ++ more.0,
      more.1,
      record {
        done =
            done_both home (point_in a) (point_in h.0) (point_in b) first.0 more.0 first.2.done
            more.2.done;
        own =
            own_both first.0 more.0 ∙ ap (λ z. z ++ own_ticks more.0) first.2.own
            ∙ ap (λ z. ticks_of (x ∷ []) ++ z) more.2.own ∙ ticks_first x ss;
        stands =
            subst (λ (z : List Happened). StandsIn home t.wire z more.1 b.lobby) parts
            more.2.stands;
        each =
            subst (λ (z : List Happened). EachBehind home t.doors z
            (frames ++ frames_in (first.0 ++ more.0)) more.1) parts
            (subst (λ z. EachBehind home t.doors (now ++ told_all ss) z more.1) all more.2.each);
      },
    )

-- ---- calls and pushes

makes_tick : {V : Type 0} {way : Way V} (home : Home) (starved : Bool) (a b : Point way)
    → TicksBy starved home (sides_at a) (sides_at b) → MakesSome home.hall a b
makes_tick {V} {way} home false a b h =
    ((serve_frame home a.seen (tick_begun way.wire home h.0)).acts, h.2.made)
makes_tick home true a b h = (h.1.0, h.1.2.made)

makes_both : {V : Type 0} {way : Way V} (hall : ℕ) (a m b : Point way) → MakesSome hall a m
    → MakesSome hall m b → MakesSome hall a b
makes_both hall a m b h k = (
  h.0 ++ k.0,
  Makes-trans hall a.outside m.outside b.outside h.0 k.0 h.1 k.1,
)

between_more : {V : Type 0} {way : Way V} (hall : ℕ) (a m b : Point way) (settlings : List Bool)
    → MakesSome hall a m → MakesBetween hall m settlings b → MakesBetween hall a settlings b
between_more hall a m b [] h k = makes_both hall a m b h k
between_more hall a m b (ok ∷ more) h k = (k.0, k.1, makes_both hall a m k.0 h k.2, k.3, k.4)

makes_deeds : {V : Type 0} {way : Way V} (home : Home) (a b : Point way) (ds : List Deed)
    → AreDoneInTurn home a ds b → (settlings : List Bool) × MakesBetween home.hall a settlings b
makes_deeds {V} {way} home a b [] is =
    ([], subst (λ (z : Point way). MakesSome home.hall a z) is ([], Makes-nil home.hall a.outside))
makes_deeds home a b (Frame own f ∷ ds) h =
    let later = makes_deeds home h.0 b ds h.2 in (
      later.0,
      between_more home.hall a h.0 b later.0 (makes_all home a h.0 (f ∷ []) h.1) later.1,
    )
makes_deeds home a b (OwnTick starved ∷ ds) h =
    let later = makes_deeds home h.0 b ds h.2 in (
      later.0,
      between_more home.hall a h.0 b later.0 (makes_tick home starved a h.0 h.1) later.1,
    )
makes_deeds home a b (Settling ok ∷ ds) h =
    let later = makes_deeds home h.0 b ds h.2 in
    (ok ∷ later.0, (a, h.0, ([], Makes-nil home.hall a.outside), h.1, later.1))

-- ---- the law

pub each_client : {V : Type 0} (d : DeskOf V) → EachClientIsServed d
each_client d result home t period a b before after steps h =
    let none = λ (k : ℕ). fresh_locked_connection t.doors [] home t.wire in
    let at_start : StandsIn home t.wire [] none a.lobby =
    subst (λ (l : Lobby). StandsIn home t.wire [] none l) (sym h.first) (record {
      hosted = tt;
      fresh = λ k above. record { talk = refl; absent = refl };
      low = tt;
      apart = tt;
    }) in
    let led = after_steps home t [] [] none steps a b at_start
    (λ k. nothing_behind home t.wire t.doors (none k) k refl) h.pass in (
      led.0,
      led.2.done,
      makes_deeds home (point_in a) (point_in b) led.0 led.2.done,
      led.2.own,
      λ k.
          let one = led.2.each k in
          client_of home t.doors (came_with k (told_all steps)) (led.1 k) (gave k (told_all steps))
          one.handed one.answers (took k (told_all steps)) (served_of k (frames_in led.0)) one.holds
          one.kept,
    )
