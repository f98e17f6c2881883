-- What a desk did that stops before it has settled is as if it had never come.
use Rattle.std.proofs.Common.{◌≡◌, ◌⊎◌, inl, inr, refl, sym, ap, subst, ◌∙◌, ℕ, Bool, true, false}
use Rattle.std.proofs.Common.{List, [], ◌∷◌, ◌++◌, append_assoc}
use Rattle.acceptor.specs.declared.{entry.Entry.Entry, stored.Stored.Stored}
use Rattle.learner.specs.{Steps.IsDesk, Worlds.World}
use Rattle.replica.specs.{Handles.Handles, Nodes.NodeValue, Settles.Settles}
use Rattle.serving.specs.Connection.{Begun, serve_frame}
use Rattle.serving.specs.Making.{Call, Lead, Outside, calls_of, speaking}
use Rattle.serving.specs.Serving.{Act, Answered, Called, Pushed}
use Rattle.serving.specs.TurnLaw.{Began, Came, Place, Rested, Took, Turn, Turns, sides_in}
use Rattle.connections.specs.Connections.{TurnOf, place_of}
use Rattle.store.specs.declared.keeper.Keeper.{Ghosts}
use Rattle.hall_laws.specs.{Arriving.delivers, Lost.LostWorkIsNothing, OwnMessages.WereSentTo}
use Rattle.hall_laws.specs.HallRuns.{AreDone, AreSteps, CutAt, FrameWasSent, Hall, HallEvent}
use Rattle.hall_laws.specs.HallRuns.{HallGoes, HallStep, IsOpened, IsTick, OnlyAt, OpenedAt}
use Rattle.hall_laws.specs.HallRuns.{WaitsAt, SettledAt, SettlesAt, Station, TakesTurn, TickedAt}
use Rattle.hall_laws.specs.HallRuns.{TicksItself, TurnAt, TurnWasSent, acts_of, connections}
use Rattle.hall_laws.specs.HallRuns.{hall_after, home_at, desk_of, seen_of}
use Rattle.hall_laws.specs.Lost.{AreWorkOf, GoesWithout, IsFoundAt, IsOpeningOf, IsWorkOf}
use Rattle.hall_laws.specs.{Served.all_handed_out, Stops.CallsAreHappenings}
use Rattle.hall_laws.proofs.HallDesks.{done_front, home_after}
use Rattle.hall_laws.proofs.HallSteps.{AreIts, Matches, WorksAt, step_comes, tick_works, turn_works}
use Rattle.hall_laws.proofs.HallGoing.{Stands, only_here, stands_at_end, station_here, with_station}

-- ---- calls, seen from their end

lead_honest : {K : Type 0} (k : Ghosts K) (calls : List Call) (x y : NodeValue K)
    → Lead (Handles k) x calls y → k.is_honest y.keeper → k.is_honest x.keeper
lead_honest k [] x y is honest = subst (λ z. k.is_honest z.keeper) (sym is) honest
lead_honest k (c ∷ cs) x y h honest = h.1.honest (lead_honest k cs h.0 y h.2 honest)

-- after a front part of the calls the store was to hold this state
record HeldAfter {K : Type 0} (k : Ghosts K) (x : NodeValue K) (calls : List Call) (s : Stored)
    (log : List Entry) : Type 0 where
  front : List Call
  more : List Call
  node : NodeValue K
  parts : calls ≡ front ++ more
  lead : Lead (Handles k) x front node
  honest : k.is_honest node.keeper
  held : k.may_hold node.keeper s log

-- what an opening finds after them it found before them, or it was to be held on the way
lead_back : {K : Type 0} (k : Ghosts K) (s : Stored) (log : List Entry) (calls : List Call)
    (x y : NodeValue K) → Lead (Handles k) x calls y → k.is_honest y.keeper → k.finds y.keeper s log
    → k.finds x.keeper s log ⊎ HeldAfter k x calls s log
lead_back k s log [] x y is honest found = inl (subst (λ z. k.finds z.keeper s log) (sym is) found)
lead_back {K} k s log (c ∷ cs) x y h honest found = by (lead_back k s log cs h.0 y h.2 honest found)
  where
    mid : k.is_honest h.0.keeper
    mid = lead_honest k cs h.0 y h.2 honest

    by : k.finds h.0.keeper s log ⊎ HeldAfter k h.0 cs s log
        → k.finds x.keeper s log ⊎ HeldAfter k x (c ∷ cs) s log
    by (inl here) = elim (h.1.finds mid s log here) [
      | inl before ↦ inl before
      | inr both ↦ inr (record {
        front = c ∷ [];
        more = cs;
        node = h.0;
        parts = refl;
        lead = (h.0, h.1, refl);
        honest = mid;
        held = both.1;
      })
    ]
    by (inr later) =
        inr (record {
          front = c ∷ later.front;
          more = later.more;
          node = later.node;
          parts = ap (λ z. c ∷ z) later.parts;
          lead = (h.0, h.1, later.lead);
          honest = later.honest;
          held = later.held;
        })

-- what is done up to the last of these calls
record UpTo (acts : List Act) (front : List Call) : Type 0 where
  done : List Act
  rest : List Act
  parts : acts ≡ done ++ rest
  calls : calls_of done ≡ front

heads_and_tails : (x c : Call) (xs ys : List Call) → x ∷ xs ≡ c ∷ ys → (x ≡ c) × (xs ≡ ys)
heads_and_tails x c xs ys h = (cc, cc)

up_to : (acts : List Act) (front more : List Call) → calls_of acts ≡ front ++ more → UpTo acts front
up_to acts [] more is = record { done = []; rest = acts; parts = refl; calls = refl }
up_to [] (c ∷ front) more is = absurd cc
up_to (Called e r ∷ acts) (c ∷ front) more is =
    let both =
    heads_and_tails (record { event = e; answer = r }) c (calls_of acts) (front ++ more) is in
    let later = up_to acts front more both.1 in
    record {
      done = Called e r ∷ later.done;
      rest = later.rest;
      parts = ap (λ z. Called e r ∷ z) later.parts;
      calls = ap (λ z. z ∷ calls_of later.done) both.0 ∙ ap (λ z. c ∷ z) later.calls;
    }
up_to (Pushed m ∷ acts) (c ∷ front) more is =
    let later = up_to acts (c ∷ front) more is in
    record {
      done = Pushed m ∷ later.done;
      rest = later.rest;
      parts = ap (λ z. Pushed m ∷ z) later.parts;
      calls = later.calls;
    }
up_to (Answered run ∷ acts) (c ∷ front) more is =
    let later = up_to acts (c ∷ front) more is in
    record {
      done = Answered run ∷ later.done;
      rest = later.rest;
      parts = ap (λ z. Answered run ∷ z) later.parts;
      calls = later.calls;
    }

-- ---- halls in which the desk is opened again

-- the desk is opened again, over this keeper
record Again {K : Type 0} (k : Ghosts K) (n d : ℕ) (y : Station K) : Type 0 where
  ours : IsDesk n d
  keeper : K
  opened : IsOpened k keeper y

-- an opening of this store finds what is found
abbrev Finds : {K : Type 0} → Ghosts K → Station K → K → Type 0
Finds k y keeper = k.finds keeper y.node.desk.stored y.node.desk.log

-- the desk finds what was to be found before, or the hall leads where it is
abbrev Back : {K : Type 0} → Ghosts K → ℕ → ℕ → Station K → Hall K → List (HallStep K) → Type 0
Back k n d y h ss = Finds k y (h.desks d).node.keeper ⊎ GoesWithout k n d h ss y

-- what acts leave of the desk, and what it came from
record Worked {K : Type 0} (k : Ghosts K) (n d : ℕ) (y : Station K) (c : Again k n d y)
    (h g : Hall K) (acts : List Act) : Type 0 where
  only : OnlyAt d acts h g
  home : home_at k (g.desks d) ≡ home_at k (h.desks d)
  honest : k.is_honest (g.desks d).node.keeper → k.is_honest (h.desks d).node.keeper
  back : (ss : List (HallStep K))
      → k.home_of c.keeper ≡ home_at k (h.desks d) → k.is_honest (g.desks d).node.keeper
      → Finds k y (g.desks d).node.keeper → Back k n d y h ss

-- what all steps leave
record AllWorked {K : Type 0} (k : Ghosts K) (n d : ℕ) (y : Station K) (c : Again k n d y)
    (h : Hall K) (ss : List (HallStep K)) (g : Hall K) : Type 0 where
  home : home_at k (g.desks d) ≡ home_at k (h.desks d)
  honest : k.is_honest (g.desks d).node.keeper → k.is_honest (h.desks d).node.keeper
  back : k.home_of c.keeper ≡ home_at k (h.desks d) → k.is_honest (g.desks d).node.keeper
      → Finds k y (g.desks d).node.keeper → Back k n d y h ss
  later : GoesWithout k n d g [] y → GoesWithout k n d h ss y

module _ {K : Type 0} (k : Ghosts K) (n d : ℕ) (y : Station K) (c : Again k n d y) where
  -- by one step
  lands_at : (h : Hall K) (ss : List (HallStep K)) (event : HallEvent) (acts : List Act)
      → IsOpeningOf d event → HallGoes k n event h (with_station h d y acts)
      → GoesWithout k n d h ss y
  lands_at h ss event acts opens goes = record {
    front = [];
    lost = ss;
    parts = refl;
    opening = record { event = event; after = with_station h d y acts };
    opens = opens;
    steps = (goes, tt);
    lands =
        record {
          here = station_here h d y acts;
          others = (only_here h d y acts).others;
          more = all_handed_out (calls_of acts);
          sent = refl;
        };
  }

  -- after a step of this desk alone
  lands_later : (h : Hall K) (e : HallStep K) (ss : List (HallStep K))
      → HallGoes k n e.event h e.after → OnlyAt d (acts_of e.event) h e.after
      → GoesWithout k n d e.after ss y → GoesWithout k n d h (e ∷ ss) y
  lands_later h e ss goes only later =
      let handed = all_handed_out (calls_of (acts_of e.event)) in
      record {
        front = e ∷ later.front;
        lost = later.lost;
        parts = ap (λ z. e ∷ z) later.parts;
        opening = later.opening;
        opens = later.opens;
        steps = (goes, later.steps);
        lands =
            record {
              here = later.lands.here;
              others = λ j other. later.lands.others j other ∙ only.others j other;
              more = handed ++ later.lands.more;
              sent = later.lands.sent ∙ ap (λ z. z ++ later.lands.more) only.sent
                  ∙ append_assoc h.sent handed later.lands.more;
            };
      }

  -- what is said of the desk is said of it where it is
  placed : (h : Hall K) (acts : List Act) (P : Station K → Type 0) → P y
      → P ((with_station h d y acts).desks d)
  placed h acts P is = subst P (sym (station_here h d y acts)) is

  -- it is opened again where its store was to hold the state that is found
  reopened : (h : Hall K) (ss : List (HallStep K))
      → k.home_of c.keeper ≡ home_at k (h.desks d) → k.is_honest (h.desks d).node.keeper
      → k.may_hold (h.desks d).node.keeper y.node.desk.stored y.node.desk.log
      → GoesWithout k n d h ss y
  reopened h ss home honest held =
      lands_at h ss (OpenedAt d) [] refl
      (record {
        ours = c.ours;
        keeper = c.keeper;
        store =
            record {
              home = home;
              honest = λ _. honest;
              held =
                  placed h []
                  (λ z. k.may_hold (h.desks d).node.keeper z.node.desk.stored z.node.desk.log) held;
            };
        opened = placed h [] (λ z. IsOpened k c.keeper z) c.opened;
        only = only_here h d y [];
      })

  -- it stops after some of the calls that are made for a frame
  cut : (h : Hall K) (ss : List (HallStep K)) (one : Begun) (acts rest : List Act)
      → k.home_of c.keeper ≡ home_at k (h.desks d)
      → WaitsAt (h.desks d) one ⊎ IsTick (home_at k (h.desks d)) one
      → FrameWasSent (home_at k (h.desks d)) h.sent one
      → (serve_frame (home_at k (h.desks d)) (seen_of (h.desks d).node) one).acts ≡ acts ++ rest
      → HeldAfter k (h.desks d).node (calls_of acts) y.node.desk.stored y.node.desk.log
      → GoesWithout k n d h ss y
  cut h ss one acts rest home next brings parts held =
      let part = up_to acts held.front held.more held.parts in
      lands_at h ss (CutAt d one part.done) part.done refl
      (record {
        ours = c.ours;
        next = next;
        brings = brings;
        rest = part.rest ++ rest;
        parts = parts ∙ ap (λ z. z ++ rest) part.parts ∙ append_assoc part.done part.rest rest;
        node = held.node;
        calls =
            subst (λ z. Lead (Handles k) (h.desks d).node z held.node) (sym part.calls) held.lead;
        keeper = c.keeper;
        store =
            inl (record {
              home = home ∙ sym (home_after k held.front (h.desks d).node held.node held.lead);
              honest = λ _. held.honest;
              held =
                  placed h part.done
                  (λ z. k.may_hold held.node.keeper z.node.desk.stored z.node.desk.log) held.held;
            });
        opened = placed h part.done (λ z. IsOpened k c.keeper z) c.opened;
        only = only_here h d y part.done;
      })

  -- ---- one event, seen from its end

  called_back : (h g : Hall K) (ss : List (HallStep K)) (one : Begun) (acts rest : List Act)
      → k.home_of c.keeper ≡ home_at k (h.desks d) → k.is_honest (g.desks d).node.keeper
      → Finds k y (g.desks d).node.keeper
      → Lead (Handles k) (h.desks d).node (calls_of acts) (g.desks d).node
      → WaitsAt (h.desks d) one ⊎ IsTick (home_at k (h.desks d)) one
      → FrameWasSent (home_at k (h.desks d)) h.sent one
      → (serve_frame (home_at k (h.desks d)) (seen_of (h.desks d).node) one).acts ≡ acts ++ rest
      → Back k n d y h ss
  called_back h g ss one acts rest home honest found lead next brings parts =
      elim (lead_back k y.node.desk.stored y.node.desk.log (calls_of acts) (h.desks d).node
      (g.desks d).node lead honest found) [
        | inl before ↦ inl before
        | inr held ↦ inr (cut h ss one acts rest home next brings parts held)
      ]

  turn_back : (h g : Hall K) (ss : List (HallStep K)) (t : TurnOf) (acts : List Act)
      → AreIts k (h.desks d) → TakesTurn k n d t acts h g
      → k.home_of c.keeper ≡ home_at k (h.desks d) → k.is_honest (g.desks d).node.keeper
      → Finds k y (g.desks d).node.keeper → Back k n d y h ss
  turn_back h g ss t acts its step home honest found =
      by t.turn step.turn.turn step.done step.brings
    where
      a : Place (speaking (Handles k) (Settles k) (h.desks d).wire)
      a = place_of (connections k (h.desks d).wire (h.desks d)) t.number

      b : Place (speaking (Handles k) (Settles k) (h.desks d).wire)
      b = place_of (connections k (h.desks d).wire (g.desks d)) t.number

      same : b.outside ≡ a.outside → Back k n d y h ss
      same is =
          inl (subst (λ (o : Outside (speaking (Handles k) (Settles k) (h.desks d).wire)).
          Finds k y o.node.keeper) is found)

      by : (turn : Turn) → Turns turn a b → AreDone turn a b acts
          → TurnWasSent (home_at k (h.desks d)) h.sent turn → Back k n d y h ss
      by (Came piece) goes is brings = same goes.2.outside
      by Rested goes is brings = same goes.1.outside
      by (Took bytes) goes is brings = same goes.2.outside
      by (Began one) goes is brings =
          let front =
          done_front (speaking (Handles k) (Settles k) (h.desks d).wire) b.talk.end a.talk.home
          (sides_in a a.talk.pending) (sides_in b b.talk.pending) one b.talk.frames acts goes.1 is
          in
          called_back h g ss one acts front.rest home honest found front.made.calls
          (inl (t.number, b.talk.waiting, goes.0.next)) brings
          (subst (λ z. (serve_frame z (seen_of (h.desks d).node) one).acts ≡ acts ++ front.rest)
          (its t.number) front.parts)

  settled_back : (h g : Hall K) (ss : List (HallStep K)) → SettlesAt k n d h g
      → k.home_of c.keeper ≡ home_at k (h.desks d) → k.is_honest (g.desks d).node.keeper
      → Finds k y (g.desks d).node.keeper → Back k n d y h ss
  settled_back h g ss step home honest found = by (h.desks d).node.is_down refl
    where
      by : (b : Bool) → (h.desks d).node.is_down ≡ b → Back k n d y h ss
      by true down =
          inl (subst (λ (z : NodeValue K). Finds k y z.keeper) (step.settles.ended down) found)
      by false up =
          elim ((step.settles.left up honest).1 y.node.desk.stored y.node.desk.log found) [
            | inl before ↦ inl before
            | inr held ↦ inr (reopened h ss home (step.settles.honest honest) held)
          ]

  called_worked : (event : HallEvent) (h g : Hall K) → desk_of event ≡ d → WorksAt k n event h g
      → ((ss : List (HallStep K))
      → k.home_of c.keeper ≡ home_at k (h.desks d) → k.is_honest (g.desks d).node.keeper
      → Finds k y (g.desks d).node.keeper → Back k n d y h ss)
      → Worked k n d y c h g (acts_of event)
  called_worked event h g at does back =
      let calls = calls_of (acts_of event) in
      let lead = subst (λ j. Lead (Handles k) (h.desks j).node (calls_of (acts_of event))
      (g.desks j).node) at does.lead in
      record {
        only = subst (λ j. OnlyAt j (acts_of event) h g) at does.only;
        home = home_after k calls (h.desks d).node (g.desks d).node lead;
        honest = lead_honest k calls (h.desks d).node (g.desks d).node lead;
        back = back;
      }

  worked : (event : HallEvent) (h g : Hall K) (w : World)
      → IsWorkOf d event → Matches k n h w → HallGoes k n event h g
      → Worked k n d y c h g (acts_of event)
  worked (TurnAt e t acts) h g w own m step =
      let its = m.talks d c.ours in
      let here = subst (λ z. TakesTurn k n z t acts h g) own step in
      called_worked (TurnAt d t acts) h g refl (turn_works k n d t acts h g its here)
      (λ ss. turn_back h g ss t acts its here)
  worked (TickedAt e one acts) h g w own m step =
      let its = m.talks d c.ours in
      let here = subst (λ z. TicksItself k n z one acts h g) own step in
      called_worked (TickedAt d one acts) h g refl (tick_works k n d one acts h g its here)
      (λ ss home honest found.
      called_back h g ss one acts here.rest home honest found here.made.calls (inr here.asked)
      (subst (λ r. WereSentTo (home_at k (h.desks d)).desk h.sent (delivers r)) (sym here.asked) tt)
      here.parts)
  worked (SettledAt e) h g w own m step =
      let here = subst (λ z. SettlesAt k n z h g) own step in
      record {
        only = here.only;
        home = here.settles.home;
        honest = here.settles.honest;
        back = λ ss. settled_back h g ss here;
      }
  worked _ h g w own m step = absurd own

  -- ---- all of them

  all_worked : CallsAreHappenings k → (ss : List (HallStep K)) (h : Hall K) (w : World)
      → Matches k n h w → AreSteps k n h ss → AreWorkOf d ss
      → AllWorked k n d y c h ss (hall_after h ss)
  all_worked law [] h w m steps own = record {
    home = refl;
    honest = λ honest. honest;
    back = λ home honest found. inl found;
    later = λ lands. lands;
  }
  all_worked law (e ∷ ss) h w m steps own =
      let here = worked e.event h e.after w own.0 m steps.0 in
      let rest =
      all_worked law ss e.after _ (step_comes k law n e.event h e.after w m steps.0).matches steps.1
      own.1 in
      record {
        home = rest.home ∙ here.home;
        honest = λ honest. here.honest (rest.honest honest);
        back = λ home honest found.
            elim (rest.back (home ∙ sym here.home) honest found) [
              | inl mid ↦ here.back (e ∷ ss) home (rest.honest honest) mid
              | inr lands ↦ inr (lands_later h e ss steps.0 here.only lands)
            ];
        later = λ lands. lands_later h e ss steps.0 here.only (rest.later lands);
      }

pub lost_work : {K : Type 0} (k : Ghosts K) → CallsAreHappenings k
    → ((x : K) (s : Stored) (log : List Entry) → k.is_settled x → k.finds x s log
    → k.may_hold x s log) → LostWorkIsNothing k
lost_work {K} k law rests n first before d work y run lost = by lost.found
  where
    start : Hall K
    start = hall_after first before

    last : Hall K
    last = hall_after start work

    again : Again k n d y
    again = record { ours = lost.ours; keeper = lost.keeper; opened = lost.opened }

    at : Stands k n start
    at = stands_at_end k law n first before run

    all : AllWorked k n d y again start work last
    all = all_worked k n d y again law work start at.world at.matches lost.steps lost.own

    by_finding : Finds k y (last.desks d).node.keeper → GoesWithout k n d start work y
    by_finding found = elim (all.back lost.home lost.honest found) [
      | inl here ↦ reopened k n d y again start work lost.home (all.honest lost.honest)
          (rests (start.desks d).node.keeper y.node.desk.stored y.node.desk.log lost.rests here)
      | inr lands ↦ lands
    ]

    by : IsFoundAt k (last.desks d).node y.node.desk.stored y.node.desk.log
        → GoesWithout k n d start work y
    by (inl found) = by_finding found
    by (inr stops) =
        elim ((stops.2.left stops.1 stops.3).1 y.node.desk.stored y.node.desk.log stops.4) [
          | inl found ↦ by_finding found
          | inr held ↦ all.later
              (reopened k n d y again last [] (lost.home ∙ sym all.home) lost.honest held)
        ]
