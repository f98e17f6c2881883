-- Three desks come to a tangle, and a majority of them decides.
use Rattle.hall_laws.proofs.HallExample.{one_of_three, two_of_three}
use Rattle.progress.proofs.Tangle.{and, majority, of_these}
use Rattle.std.proofs.Common.{◌≡◌, ◌≤◌, ◌+◌, ◌*◌, inl, inr, refl, sym, ap, subst, ◌∙◌, ℕ, eqb}
use Rattle.std.proofs.Common.{if◌then◌else◌, List, [], ◌∷◌, ◌++◌, drop, length, None, Some, arith}
use Rattle.std.proofs.{Common.false, Common.slice_get, Common.take, Common.Ok, Math.Seq.take-length}
use Rattle.acceptor.specs.declared.message.Body.TheVariants.{Prepare, Promise, Accept}
use Rattle.acceptor.specs.declared.message.Message.{Message}
use Rattle.answers.specs.Seen.{Seen}
use Rattle.learner.specs.{Chosen.Has, Steps.IsDesk, Contents.BodyHolds, Ranges.IsInRange}
use Rattle.learner.specs.{Desks.Desk, Desks.first_desk, Worlds.World, Worlds.after, Worlds.nth_sent}
use Rattle.learner.specs.declared.event.{DeskEvent.TheVariants.Tick, WorldEvent.WorldEvent}
use Rattle.progress.specs.Progress.{CanDecide, HasRoom, NoQueueIsStuck}
use Rattle.progress.specs.Tangle.{ballot, entry, these, outbid_desk}
use Rattle.progress.specs.Turns.{HasTurnRoom, NoServingDeskIsStuck}
use Rattle.replica.specs.{Handles.IsInFrame, Handles.step_at, Stores.HoldsStep}
use Rattle.replica.specs.{Lengths.nothing_told, Nodes.NodeValue}
use Rattle.serving.specs.{Asking.request, Making.calls_of, Serving.start_if_grown, Turns.new_talk}
use Rattle.serving.specs.Serving.{take as take_event, Act, call, enter, framed, served, push_all}
use Rattle.serving.specs.Connection.{Begun, close_of, serve_frame}
use Rattle.serving.specs.declared.request.Request.TheVariants.{Entered}
use Rattle.store.specs.declared.home.Home.{Home}
use Rattle.wire.specs.{Ranges.IsFrame, declared.values.Version.TheVariants.Two}
use Rattle.hall_laws.specs.{HallExample.third_home, HallProgress.ComesTo, HallServing.CanServe}
use Rattle.hall_laws.specs.{HallProgress.world_of, Stops.CallsAreHappenings, Stops.StopsMakeARun}
use Rattle.hall_laws.specs.HallGoing.{as_it_goes, own_tick}
use Rattle.hall_laws.specs.{Memory.Memory, Memory.memory, Tangle.rival_desk, Tangle.submit}
use Rattle.hall_laws.specs.HallRuns.{CutAt, FrameWasSent, Hall, HallGoes, HallStep, IsOpened}
use Rattle.hall_laws.specs.HallRuns.{IsTick, Station, StopsInSave, hall_after, seen_of}
use Rattle.hall_laws.specs.Tangle.{StopsOnce, TangleIsDecided, first_hall, restarted_desk}
use Rattle.hall_laws.proofs.{Contents.IsMade, HallProgress.room_same, HallSound.Sound, Memory.Led}
use Rattle.hall_laws.proofs.HallProgress.{serving_decides, halls_are_not_stuck, has_room_same}
use Rattle.hall_laws.proofs.HallMemory.{empty_node, first_run, led_served, sound_along, sound_empty}
use Rattle.hall_laws.proofs.HallMemory.{sound_first, works_along_memory}
use Rattle.hall_laws.proofs.HallMoves.{Moves, Play, Played, asked_so, by_frame, by_step, Reached}
use Rattle.hall_laws.proofs.HallMoves.{reached, sent_fits_in, stopped_so, told}
use Rattle.hall_laws.proofs.HallGoing.{only_here, with_station}

-- ---- what comes

pub ours_3 : IsDesk 3 3
ours_3 = (omega arith, omega arith)

pub entry_fits : (id : ℕ) → 1 ≤ id → id ≤ 9 → IsInFrame (entry id)
entry_fits id low high = ((low, omega (arith, high)), omega arith)

submit_fits : (d id : ℕ) → IsDesk 3 d → 1 ≤ id → id ≤ 9 → IsFrame (submit d id)
submit_fits d id ours low high = record {
  hall = omega arith;
  goes = (refl, (ours.0, omega (arith, ours.1)));
  body = entry_fits id low high;
}

-- desk 3 asks itself and desk 2 for a promise, and both give it
abbrev pub asks : ℕ → Message
asks d = record { from = 3; to = d; body = Prepare (ballot 1 3) 0 }

abbrev pub gives : ℕ → Message
gives d = record { from = d; to = 3; body = Promise (ballot 1 3) 0 None }

-- it asks itself for a vote
abbrev pub proposes : Message
proposes = record { from = 3; to = 3; body = Accept (ballot 1 3) 0 (entry 7) }

-- desk 2 asks desk 3 for a promise of a higher ballot
abbrev rivals : Message
rivals = record { from = 2; to = 3; body = Prepare (ballot 2 2) 0 }

made : (number d : ℕ) → 1 ≤ number → number ≤ 9 → IsDesk 3 d → IsMade 3 (ballot number d)
made number d low high ours = ((low, ours), omega (arith, high))

-- ---- the moments

abbrev pub first_play : Play
first_play = record {
  seen = λ d. record { desk = first_desk; is_down = false; told = nothing_told };
  sent = [];
}

-- a client submits the entry of this id at a desk; or a message comes, as this one of those sent
pub data Deed : Type 0 where
  Enters : ℕ → ℕ → Deed
  Hears : Message → ℕ → Deed

abbrev pub after_deed : Play → Deed → Play
after_deed p (Enters d id) = asked_so p d (request (third_home d) (submit d id))
after_deed p (Hears m at) = asked_so p m.to (request (third_home m.to) (framed Two 7 m))

abbrev pub play_after : Play → List Deed → Play
play_after p [] = p
play_after p (x ∷ xs) = play_after (after_deed p x) xs

-- it can come then
abbrev pub CanCome : Play → Deed → Type 0
CanCome p (Enters d id) =
    IsDesk 3 d × (1 ≤ id) × (id ≤ 9) × (request (third_home d) (submit d id) ≡ Entered (entry id))
    × (close_of (third_home d) (p.seen d) (as_it_goes (submit d id)) ≡ None)
CanCome p (Hears m at) =
    IsInRange 3 m × BodyHolds IsInFrame (IsMade 3) m.body × (nth_sent p.sent at ≡ Some m)
    × (close_of (third_home m.to) (p.seen m.to) (as_it_goes (framed Two 7 m)) ≡ None)

abbrev pub AllCome : Play → List Deed → Type 0
AllCome p [] = Unit {0}
AllCome p (x ∷ xs) = CanCome p x × AllCome (after_deed p x) xs

abbrev firsts : List Deed
firsts =
    Enters 3 7 ∷ Hears (asks 3) 3 ∷ Hears (asks 2) 2 ∷ Hears (gives 3) 4 ∷ Hears (gives 2) 5
    ∷ Hears proposes 8 ∷ []

abbrev pub play_6 : Play
play_6 = play_after first_play firsts

abbrev lasts : List Deed
lasts = Enters 2 8 ∷ Hears rivals 12 ∷ Enters 1 9 ∷ []

abbrev play_9 : Play
play_9 = play_after play_6 lasts

-- what desk 1 is opened again over, and so
abbrev again : NodeValue Memory
again = empty_node (third_home 1) 1

abbrev kept : Memory
kept = again.keeper

abbrev play_10 : Play
play_10 = stopped_so play_9 1 (seen_of again)

abbrev play_11 : Play
play_11 = asked_so play_10 1 (request (third_home 1) (submit 1 9))

-- ---- each is come to

first_played : Played [] first_play
first_played =
    record { run = first_run; sound = sound_first; seen = λ d ours. refl; sent = refl }

-- a client submits an entry at a desk
enters : CallsAreHappenings memory → (steps : List (HallStep Memory)) (p : Play)
    → Played steps p → (d id : ℕ) → IsDesk 3 d → 1 ≤ id → id ≤ 9
    → request (third_home d) (submit d id) ≡ Entered (entry id)
    → close_of (third_home d) (p.seen d) (as_it_goes (submit d id)) ≡ None
    → Moves steps (asked_so p d (request (third_home d) (submit d id)))
enters law steps p was d id ours low high asked stays =
    by_frame law steps p was d ours (submit d id) (submit_fits d id ours low high)
    (subst (λ r. Rattle.hall_laws.specs.OwnMessages.WereSentTo d p.sent
    (Rattle.hall_laws.specs.Arriving.delivers r)) (sym asked) tt) stays (λ x sound. subst
    (λ r. Led (third_home d) x (served (third_home d) (seen_of x) [] r)) (sym asked)
    (led_served (third_home d) ours x (Entered (entry id)) (entry_fits id low high, tt) sound))
    (λ e is.
    let same : entry id ≡ e = (let both = sym asked ∙ is in cc) in
    subst (λ z. IsInFrame z) same (entry_fits id low high))

pub made_it : IsMade 3 (ballot 1 3)
made_it = made 1 3 (omega arith) (omega arith) ours_3

-- each of these comes after the others
pub come : CallsAreHappenings memory → (p : Play) (ds : List Deed) → Reached p → AllCome p ds
    → Reached (play_after p ds)
come law p [] was can = was
come law p (Enters d id ∷ ds) was can =
    come law (after_deed p (Enters d id)) ds (reached was.0
    (enters law was.0 p was.1 d id can.0.0 can.0.1 can.0.2 can.0.3 can.0.4)) can.1
come law p (Hears m at ∷ ds) was can =
    come law (after_deed p (Hears m at)) ds
    (told law p was m can.0.0 can.0.1 at can.0.2 can.0.3) can.1

firsts_come : AllCome first_play firsts
unfolding close_of serve_frame call push_all start_if_grown enter take_event
firsts_come =
    let to_3 : IsInRange 3 (asks 3) = record { from = ours_3; to = ours_3; body = refl } in
    let to_2 : IsInRange 3 (asks 2) = record { from = ours_3; to = two_of_three; body = refl } in
    let own : IsInRange 3 (gives 3) = record { from = ours_3; to = ours_3; body = refl } in
    let his : IsInRange 3 (gives 2) = record { from = two_of_three; to = ours_3; body = refl } in
    let last : IsInRange 3 proposes = record { from = ours_3; to = ours_3; body = refl } in
    let fits = entry_fits 7 (omega arith) (omega arith) in
    and (ours_3, omega arith, omega arith, refl, refl) (and (to_3, made_it, refl, refl)
    (and (to_2, made_it, refl, refl) (and (own, (made_it, tt), refl, refl)
    (and (his, (made_it, tt), refl, refl) (and (last, (made_it, fits), refl, refl) tt)))))

pub moves_6 : CallsAreHappenings memory → Reached play_6
moves_6 law = come law first_play firsts ([], first_played) firsts_come

lasts_come : AllCome play_6 lasts
unfolding close_of serve_frame call push_all start_if_grown enter take_event
lasts_come =
    let his : IsInRange 3 rivals = record { from = two_of_three; to = ours_3; body = refl } in
    and (two_of_three, omega arith, omega arith, refl, refl)
    (and (his, made 2 2 (omega arith) (omega arith) two_of_three, refl, refl)
    (and (one_of_three, omega arith, omega arith, refl, refl) tt))

moves_9 : CallsAreHappenings memory → Reached play_9
moves_9 law = come law play_6 lasts (moves_6 law) lasts_come

-- ---- desk 1 stops while it saves in a Tick of its own

abbrev its_tick : Begun
its_tick = as_it_goes (own_tick Two (third_home 1))

abbrev left_undone : List Act
left_undone = (serve_frame (third_home 1) (play_9.seen 1) its_tick).acts

-- what it would have asked
abbrev its_asks : List Message
its_asks =
    record { from = 1; to = 1; body = Prepare (ballot 2 1) 0 }
    ∷ record { from = 1; to = 2; body = Prepare (ballot 2 1) 0 }
    ∷ record { from = 1; to = 3; body = Prepare (ballot 2 1) 0 } ∷ []

abbrev opened_again : Station Memory
opened_again =
    record { node = again; talks = λ j. new_talk (third_home 1) Two; wire = Two; handed = None }

abbrev after_cut : List (HallStep Memory) → Hall Memory
after_cut steps = with_station (hall_after first_hall steps) 1 opened_again []

abbrev cut : List (HallStep Memory) → HallStep Memory
cut steps = record { event = CutAt 1 its_tick []; after = after_cut steps }

calls_left : calls_of left_undone
    ≡ record { event = Tick; answer = Ok its_asks } ∷ drop 1 (calls_of left_undone)
unfolding close_of serve_frame call push_all start_if_grown enter take_event
calls_left = refl

holds_either : HoldsStep memory kept (play_9.seen 1).desk
    (step_at (third_home 1) (play_9.seen 1).desk Tick)
unfolding serve_frame call push_all start_if_grown enter take_event
holds_either = λ honest. record { only = λ u rest may. inl may; whole = λ never. never }

saves : (steps : List (HallStep Memory)) → Played steps play_9
    → StopsInSave memory ((hall_after first_hall steps).desks 1).node kept left_undone
saves steps was =
    let own = was.sound.desks 1 one_of_three in
    record {
      up = own.works.up;
      home = sym own.at;
      next = record { event = Tick; answer = Ok its_asks };
      later = drop 1 (calls_of left_undone);
      calls = calls_left;
      left =
          subst
          (λ (u : Home). HoldsStep memory kept ((hall_after first_hall steps).desks 1).node.desk
          (step_at u ((hall_after first_hall steps).desks 1).node.desk Tick)) (sym own.at)
          (subst (λ (u : Seen). HoldsStep memory kept u.desk (step_at (third_home 1) u.desk Tick))
          (sym (was.seen 1 one_of_three)) holds_either);
    }

is_opened : IsOpened memory kept opened_again
is_opened = record {
  opens =
      record {
        up = refl;
        first = refl;
        told = refl;
        loaded = λ honest. (refl, refl);
        same = λ honest s log keeps. (sym keeps.0, sym keeps.1);
        stored = λ honest.
            record { holds = (refl, refl); only = λ t more may. may; whole = λ never. never };
        settled = tt;
        honest = λ honest. honest;
        home = refl;
      };
  honest = tt;
  talks = λ j. refl;
}

cuts : (steps : List (HallStep Memory)) → Played steps play_9
    → HallGoes memory 3 (cut steps).event (hall_after first_hall steps) (after_cut steps)
cuts steps was =
    let own = was.sound.desks 1 one_of_three in
    let at = own.at in
    let seen = was.seen 1 one_of_three in
    record {
      ours = one_of_three;
      next = inr (subst (λ (u : Home). IsTick u its_tick) (sym at) refl);
      brings =
          subst (λ (u : Home). FrameWasSent u (hall_after first_hall steps).sent its_tick) (sym at)
          tt;
      rest = left_undone;
      parts = λ i. (serve_frame (at i) (seen i) its_tick).acts;
      node = ((hall_after first_hall steps).desks 1).node;
      calls = refl;
      keeper = kept;
      store = inr (saves steps was);
      opened = is_opened;
      only = only_here (hall_after first_hall steps) 1 opened_again [];
    }

moves_10 : (steps : List (HallStep Memory)) → Played steps play_9
    → Played (steps ++ cut steps ∷ []) play_10
moves_10 steps was =
    by_step steps play_9 was 1 one_of_three (cut steps) opened_again refl (cuts steps was)
    (sound_empty (third_home 1) 1 (omega arith))

moves_11 : CallsAreHappenings memory → (steps : List (HallStep Memory)) → Played steps play_10
    → Moves steps play_11
unfolding close_of serve_frame call push_all start_if_grown enter take_event
moves_11 law steps was =
    enters law steps play_10 was 1 9 one_of_three (omega arith) (omega arith) refl refl

-- what the desks know then
knows_1 : (play_11.seen 1).desk ≡ restarted_desk
unfolding close_of serve_frame call push_all start_if_grown enter take_event
knows_1 = refl

knows_2 : (play_11.seen 2).desk ≡ rival_desk
unfolding close_of serve_frame call push_all start_if_grown enter take_event
knows_2 = refl

knows_3 : (play_11.seen 3).desk ≡ outbid_desk
unfolding close_of serve_frame call push_all start_if_grown enter take_event
knows_3 = refl

-- ---- a majority with room

has : Has these 1
has = inl refl

-- what the two know
abbrev known : World
known = record { desks = λ j. if eqb j 1 then restarted_desk else outbid_desk; sent = [] }

same_known : (w : World) → w.desks 1 ≡ restarted_desk → w.desks 3 ≡ outbid_desk → (j : ℕ)
    → Has these j → known.desks j ≡ w.desks j
same_known w one three = of_these (λ j. known.desks j ≡ w.desks j) (sym one) (sym three)

logs_in : (j : ℕ) → Has these j → length (known.desks j).log + 2 * 1 ≤ 65536
logs_in = of_these (λ j. length (known.desks j).log + 2 * 1 ≤ 65536) (omega arith) (omega arith)

-- four numbers are needed
numbers_in : (j : ℕ) → Has these j → (known.desks j).stored.promised.number + 4 ≤ 4294967295
numbers_in =
    of_these (λ j. (known.desks j).stored.promised.number + 4 ≤ 4294967295) (omega arith)
    (omega arith)

room_in : (w : World) → w.desks 1 ≡ restarted_desk → w.desks 3 ≡ outbid_desk → HasRoom 1 these w 1
room_in w one three =
    has_room_same known w 1 these 1 has (same_known w one three)
    (record {
      logs = logs_in;
      promised = λ j its. let some = numbers_in j its in omega arith;
      tried = omega arith;
      seen = omega arith;
    })

turn_room_in : (w : World) → w.desks 1 ≡ restarted_desk → w.desks 3 ≡ outbid_desk
    → HasTurnRoom 1 these w 1
turn_room_in w one three =
    room_same known w 1 these 1 has (same_known w one three)
    (record {
      logs = logs_in;
      promised = numbers_in;
      tried = let few : 2 + 4 ≤ 4294967295 = omega arith in few;
      seen = let few : 0 + 4 ≤ 4294967295 = omega arith in few;
    })

-- ---- all of it

pub cut_here : (a b : List (HallStep Memory)) (c : HallStep Memory)
    → slice_get ((a ++ c ∷ []) ++ b) (length a) ≡ Some c
cut_here [] b c = refl
cut_here (x ∷ a) b c = cut_here a b c

pub cut_front : (a b : List (HallStep Memory)) (c : HallStep Memory)
    → take (length a) ((a ++ c ∷ []) ++ b) ≡ a
cut_front [] b c = refl
cut_front (x ∷ a) b c = ap (λ (s : List (HallStep Memory)). x ∷ s) (cut_front a b c)

stops_once : (a b : List (HallStep Memory)) → Played a play_9 → StopsOnce ((a ++ cut a ∷ []) ++ b)
stops_once a b was = record {
  at = length a;
  step = cut a;
  here = cut_here a b (cut a);
  event = refl;
  keeper = kept;
  rest = left_undone;
  saving =
      subst (λ (s : List (HallStep Memory)).
      StopsInSave memory ((hall_after first_hall s).desks 1).node kept left_undone)
      (sym (cut_front a b (cut a))) (saves a was);
  opened = is_opened;
}

can_serve : CallsAreHappenings memory → StopsMakeARun → (steps : List (HallStep Memory))
    → Sound 7 3 (hall_after first_hall steps) → CanServe memory 3 1 these first_hall steps
can_serve law stops steps sound = record {
  up = λ j its. let at = sound.desks j (majority.ours j its) in at.works.up;
  works = λ turns more j r own is its down asked.
      works_along_memory 7 3 1 law these first_hall steps majority has sound turns more j r own is
      its asked;
  frames = λ turns more at m own is late there from to.
      let g = hall_after first_hall (steps ++ more) in
      let sound_then = sound_along 7 3 1 law these (length (hall_after first_hall steps).sent)
      first_hall steps turns more majority has sound is own in
      let its = sound_then.desks m.to (majority.ours m.to to) in
      subst (λ (u : Home). IsFrame (framed (g.desks m.from).wire u.hall m)) (sym its.at)
      (sent_fits_in law stops (steps ++ more) is sound_then (g.desks m.from).wire at m there);
}

pub tangle_is_decided : CallsAreHappenings memory → StopsMakeARun → NoQueueIsStuck
    → NoServingDeskIsStuck → TangleIsDecided
tangle_is_decided law stops queue serving =
    let was = moves_9 law in
    ends law stops queue serving was.0 was.1
  where
    ends : CallsAreHappenings memory → StopsMakeARun → NoQueueIsStuck → NoServingDeskIsStuck
        → (a : List (HallStep Memory)) → Played a play_9 → TangleIsDecided
    ends law stops queue serving a was =
        let last = moves_11 law (a ++ cut a ∷ []) (moves_10 a was) in
        whole law stops queue serving ((a ++ cut a ∷ []) ++ last.more)
        (stops_once a last.more was) last.played
      where
        whole : CallsAreHappenings memory → StopsMakeARun → NoQueueIsStuck → NoServingDeskIsStuck
            → (steps : List (HallStep Memory)) → StopsOnce steps → Played steps play_11
            → TangleIsDecided
        whole law stops queue serving steps once is =
            let g = hall_after first_hall steps in
            let first : (g.desks 1).node.desk ≡ restarted_desk =
            ap (λ (s : Seen). s.desk) (is.seen 1 one_of_three) ∙ knows_1 in
            let third : (g.desks 3).node.desk ≡ outbid_desk =
            ap (λ (s : Seen). s.desk) (is.seen 3 ours_3) ∙ knows_3 in
            let waits : (g.desks 1).node.desk.queue ≡ entry 9 ∷ [] =
            ap (λ (x : Desk). x.queue) first in
            let room = room_in (world_of g) first third in
            let turn_room = turn_room_in (world_of g) first third in
            let serves = can_serve law stops steps is.sound in
            let free = subst (λ (s : List (HallStep Memory)). (past : List WorldEvent)
            × ComesTo 3 past (hall_after first_hall s)
            × CanDecide 3 1 these (after 3 past) (entry 9 ∷ []) []) (take-length steps)
            (halls_are_not_stuck memory law stops queue 3 first_hall steps (length steps) 1 these
            (entry 9 ∷ []) [] is.run majority has (subst (λ (s : List (HallStep Memory)).
            ((hall_after first_hall s).desks 1).node.desk.queue ≡ entry 9 ∷ [])
            (sym (take-length steps)) waits) (subst (λ (s : List (HallStep Memory)).
            HasRoom 1 these (world_of (hall_after first_hall s)) 1)
            (sym (take-length steps)) room)) in
            record {
              steps = steps;
              run = is.run;
              stops = once;
              restarted = first;
              rival = ap (λ (s : Seen). s.desk) (is.seen 2 two_of_three) ∙ knows_2;
              outbid = third;
              majority = majority;
              has = has;
              room = room;
              past = free.0;
              comes = free.1;
              can = free.2;
              turn_room = turn_room;
              serves = serves;
              decides =
                  serving_decides memory law stops serving 3 first_hall steps 1 these
                  (entry 9 ∷ []) [] is.run majority has waits turn_room serves;
            }
