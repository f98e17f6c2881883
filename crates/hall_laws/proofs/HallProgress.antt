-- Desks that serve are not stuck, and decide what is queued.
use Rattle.std.proofs.Common.{sym, ap, subst, ◌∙◌, ℕ, ◌+◌, ◌*◌, ◌≤◌, List, length, take, ◌≡◌, inl}
use Rattle.std.proofs.Common.{inr, refl, ◌-◌, [], ◌∷◌, ◌++◌}
use Rattle.acceptor.specs.declared.message.Message.{Message}
use Rattle.learner.specs.{Chosen.Has, Desks.Desk, declared.event.WorldEvent.WorldEvent}
use Rattle.learner.specs.{Worlds.after, Worlds.new_world, Worlds.World, Steps.IsDesk}
use Rattle.progress.specs.Progress.{HasRoom, NoQueueIsStuck, StandFrom, enough, lacking, longest}
use Rattle.store.specs.declared.keeper.Keeper.{Ghosts}
use Rattle.hall_laws.specs.HallProgress.{world_of, ComesTo, HallsAreNotStuck}
use Rattle.hall_laws.specs.HallRuns.{Hall, HallStep, IsHallRun, hall_after}
use Rattle.hall_laws.specs.Stops.{Happening, IsAmong, CallsAreHappenings, StopsMakeARun, events_of}
use Rattle.hall_laws.proofs.{HallRuns.hall_comes, HallRuns.moments, Traces.all_of}
use Rattle.std.proofs.{Math.Seq.take-length, lemmas.List.append-nil}
use Rattle.progress.specs.Turns.{take_turns, TurnsDecide, HasTurnRoom, numbers_needed}
use Rattle.progress.specs.Turns.{NoServingDeskIsStuck}
use Rattle.hall_laws.specs.HallServing.{HallDecides, ServingDecides}
use Rattle.hall_laws.proofs.HallServing.{Along, Follows, follows}

-- the state of a hall is one to which events of the world lead
pub came_to : {K : Type 0} (k : Ghosts K) → CallsAreHappenings k → StopsMakeARun → (n : ℕ)
    (h : Hall K) (ss : List (HallStep K)) (i : ℕ) → IsHallRun k n h ss
    → (past : List WorldEvent) × ComesTo n past (hall_after h (take i ss))
came_to k law stops n h ss i is =
    let all = hall_comes k law n h ss is in
    let hs : List Happening = all_of all.each in
    let one = moments n h new_world ss all.each all.happens i in
    let run = stops n hs in
    let two = run.1.moments one.0 in (
      take two.0 (events_of n new_world hs run.0),
      record {
        desks = λ d ours. one.1.desks d ours ∙ ap (λ (ds : ℕ → Desk). ds d) two.1.desks;
        sent = λ m has.
            two.1.sent m (subst (λ (ms : List Message). IsAmong m ms) one.1.sent has);
      },
    )

-- room depends on what the desks know
pub has_room_same : (v w : World) (d : ℕ) (desks : List ℕ) (count : ℕ) → Has desks d
    → ((j : ℕ) → Has desks j → v.desks j ≡ w.desks j)
    → HasRoom d desks v count → HasRoom d desks w count
has_room_same v w d desks count mine same room = record {
  logs = λ j is.
      subst (λ (x : Desk). length x.log + 2 * count ≤ 65536) (same j is) (room.logs j is);
  promised = λ j is.
      rw (same j is) at (room.promised j is);
  tried = subst (λ (x : Desk). x.stored.tried + 2 * count ≤ 4294967295) (same d mine) room.tried;
  seen = subst (λ (x : Desk). x.seen + 2 * count ≤ 4294967295) (same d mine) room.seen;
}

pub halls_are_not_stuck : {K : Type 0} (k : Ghosts K) → CallsAreHappenings k → StopsMakeARun
    → NoQueueIsStuck → HallsAreNotStuck k
halls_are_not_stuck k law stops stuck n h ss i d desks es rest is major has queue room =
    let came = came_to k law stops n h ss i is in (
      came.0,
      came.1,
      stuck n came.0 d desks es rest major has
          (ap (λ (x : Desk). x.queue) (sym (came.1.desks d (major.ours d has))) ∙ queue)
          (has_room_same (world_of (hall_after h (take i ss))) (after n came.0) d desks (length es)
          has (λ j its. came.1.desks j (major.ours j its)) room),
    )

-- ---- Desks that serve decide what is queued.

longest_same : (v w : World) (ks : List ℕ) → ((j : ℕ) → Has ks j → v.desks j ≡ w.desks j)
    → longest v ks ≡ longest w ks
longest_same v w [] same = refl
longest_same v w (x ∷ ks) same = cc (same x (inl refl), longest_same v w ks (λ j i. same j (inr i)))

lacking_same : (v w : World) (len : ℕ) (ks : List ℕ)
    → ((j : ℕ) → Has ks j → v.desks j ≡ w.desks j) → lacking v len ks ≡ lacking w len ks
lacking_same v w len [] same = refl
lacking_same v w len (x ∷ ks) same =
    cc (same x (inl refl), lacking_same v w len ks (λ j i. same j (inr i)))

enough_same : (v w : World) (ks : List ℕ) (count : ℕ)
    → ((j : ℕ) → Has ks j → v.desks j ≡ w.desks j) → enough v ks count ≡ enough w ks count
enough_same v w ks count same =
    cc (longest_same v w ks same, lacking_same v w (longest w ks) ks same)

pub room_same : (v w : World) (d : ℕ) (ks : List ℕ) (count : ℕ) → Has ks d
    → ((j : ℕ) → Has ks j → v.desks j ≡ w.desks j)
    → HasTurnRoom d ks v count → HasTurnRoom d ks w count
room_same v w d ks count mine same room =
    let needed : numbers_needed d ks v count ≡ numbers_needed d ks w count = ap
    (λ (y : Desk). ((longest v ks + 2 * count) - length y.log) + 2 * count) (same d mine) ∙ ap
    (λ l. ((l + 2 * count) - length (w.desks d).log) + 2 * count) (longest_same v w ks same) in
    record {
      logs = λ j i. rw (same j i) at (room.logs j i);
      promised = λ j i. subst (λ (y : Desk). y.stored.promised.number
          + numbers_needed d ks w count ≤ 4294967295) (same j i) (rw needed at (room.promised j i));
      tried = subst (λ (y : Desk). y.stored.tried + numbers_needed d ks w count ≤ 4294967295)
          (same d mine) (subst (λ z. (v.desks d).stored.tried + z ≤ 4294967295) needed room.tried);
      seen = subst (λ (y : Desk). y.seen + numbers_needed d ks w count ≤ 4294967295) (same d mine)
          (subst (λ z. (v.desks d).seen + z ≤ 4294967295) needed room.seen);
    }

pub serving_decides : {K : Type 0} (k : Ghosts K) → CallsAreHappenings k → StopsMakeARun
    → NoServingDeskIsStuck → ServingDecides k
serving_decides {K} k law stops stuck n h ss d desks es rest is major has queue room can =
    go (came_to k law stops n h ss (length ss) is)
  where
    g : Hall K
    g = hall_after h ss

    go : (past : List WorldEvent) × ComesTo n past (hall_after h (take (length ss) ss))
        → HallDecides k n d desks h ss es rest
    go p = made (stuck n p.0 d desks es rest major has
        (ap (λ (x : Desk). x.queue) (sym (known d (major.ours d has))) ∙ queue)
        (room_same (world_of g) w d desks (length es) has (λ j i. known j (major.ours j i)) room))
      where
        w : World
        w = after n p.0

        came : ComesTo n p.0 g
        came = subst (λ (zs : List (HallStep K)). ComesTo n p.0 (hall_after h zs))
            (take-length ss) p.1

        known : (j : ℕ) → IsDesk n j → (g.desks j).node.desk ≡ w.desks j
        known = came.desks

        along : Along k n d desks h ss w ss w
        along =
            record {
              run = is;
              more = [];
              later = sym (append-nil ss);
              turns = [];
              own = refl;
              known = known;
              new = [];
              there = sym (append-nil w.sent);
              here = sym (append-nil g.sent);
              up = can.up;
            }

        made : TurnsDecide n d desks w es rest → HallDecides k n d desks h ss es rest
        made t = ended (follows k law n d desks h ss w t.turns ss w major has can along t.help)
          where
            ended : Follows k n d desks h ss ss (length t.turns) (take_turns n w t.turns)
                → HallDecides k n d desks h ss es rest
            ended f =
                record {
                  turns = f.turns;
                  few =
                      subst (λ l. length f.turns ≤ l)
                      (sym (enough_same (world_of g) w desks (length es)
                      (λ j i. known j (major.ours j i))))
                      (subst (λ l. l ≤ enough w desks (length es)) (sym f.many) t.few);
                  more = f.more;
                  run = f.run;
                  own = f.own;
                  decided =
                      subst (λ (x : Desk). StandFrom (length x.log) es
                      ((hall_after h (ss ++ f.more)).desks d).node.desk.log)
                      (sym (known d (major.ours d has)))
                      (subst (λ (x : Desk). StandFrom (length (w.desks d).log) es x.log)
                      (sym f.known) t.decided);
                  queue = ap (λ (x : Desk). x.queue) f.known ∙ t.queue;
                }
