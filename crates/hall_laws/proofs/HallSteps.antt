-- One step of a hall, in the world.
use Rattle.std.proofs.Common.{◌≡◌, refl, sym, ap, subst, ◌∙◌, ℕ, Bool, true, false, eqb, List, []}
use Rattle.std.proofs.lemmas.Bool.{eqb-true, eqb-false}
use Rattle.acceptor.specs.declared.entry.Entry.{Entry}
use Rattle.learner.specs.{Ranges.AreInRange, Steps.IsDesk, Worlds.World}
use Rattle.replica.specs.{Handles.Handles, Settles.Settles}
use Rattle.serving.specs.Connection.{asked, Begun, serve_frame}
use Rattle.serving.specs.{Making.Lead, Making.calls_of, Making.speaking, Serving.Act, TurnLaw.Place}
use Rattle.connections.specs.Connections.{TurnOf, place_of}
use Rattle.store.specs.declared.keeper.Keeper.{Ghosts}
use Rattle.hall_laws.specs.HallRuns.{CutAt, Enters, Hall, HallEvent, HallGoes, IsCut, IsTakenIn}
use Rattle.hall_laws.specs.HallRuns.{OnlyAt, OnlyNode, OpenedAt, SettledAt, Station, TakesTurn}
use Rattle.hall_laws.specs.HallRuns.{TickedAt, TicksItself, TurnAt, TurnWasSent, acts_of}
use Rattle.hall_laws.specs.HallRuns.{connections, desk_of, home_at, nodes_of, seen_of}
use Rattle.hall_laws.specs.{Arriving.delivers, OwnMessages.WereSentTo, Stops.CallsAreHappenings}
use Rattle.hall_laws.specs.{Served.AreSentTo, Served.all_handed_out, Stops.Happening}
use Rattle.hall_laws.specs.Stops.{real_run}
use Rattle.hall_laws.proofs.HallDesks.{Does, home_after, turn_does}
use Rattle.hall_laws.proofs.HallEntries.{frame_enters, tick_takes_none}
use Rattle.hall_laws.proofs.HallNodes.{NodesCome, NodesMatch, calls_step, cut_step, each_of}
use Rattle.hall_laws.proofs.HallNodes.{opening_step, settling_step}
use Rattle.hall_laws.proofs.{OwnMessages.front_sent, OwnMessages.one_frame, Running.HasSubmit}

-- ---- a hall and its world

-- its connections are with this desk
abbrev pub AreIts : {K : Type 0} → Ghosts K → Station K → Type 0
AreIts k x = (j : ℕ) → (x.talks j).home ≡ home_at k x

-- the nodes are as in the world, and each desk's connections are with it
pub record Matches {K : Type 0} (k : Ghosts K) (n : ℕ) (h : Hall K) (w : World) : Type 0 where
  pub nodes : NodesMatch k n (nodes_of h) w
  pub talks : (d : ℕ) → IsDesk n d → AreIts k (h.desks d)

-- what a step comes to
pub record StepComes {K : Type 0} (k : Ghosts K) (n : ℕ) (event : HallEvent) (g : Hall K)
    (w : World) : Type 0 where
  pub hs : List Happening
  pub matches : Matches k n g (real_run n w hs)
  pub entered : (e : Entry) → HasSubmit e hs → Enters event e
  pub named : AreInRange n (desk_of event) (all_handed_out (calls_of (acts_of event)))

only_nodes : {K : Type 0} (d : ℕ) (acts : List Act) (h g : Hall K) → OnlyAt d acts h g
    → OnlyNode d acts (nodes_of h) (nodes_of g)
only_nodes {K} d acts h g only = record {
  others = λ j other. ap (λ (x : Station K). x.node) (only.others j other);
  sent = only.sent;
}

-- by what its nodes come to
comes : {K : Type 0} (k : Ghosts K) (n : ℕ) (event : HallEvent) (h g : Hall K) (w : World)
    → Matches k n h w → OnlyAt (desk_of event) (acts_of event) h g
    → NodesCome k n (desk_of event) (acts_of event) (nodes_of g) w
    → AreIts k (g.desks (desk_of event))
    → ((e : Entry) → IsTakenIn e (calls_of (acts_of event)) → Enters event e)
    → StepComes k n event g w
comes k n event h g w m only come its enters = record {
  hs = come.hs;
  matches =
      record {
        nodes = come.matches;
        talks = λ j ours.
            each_of (desk_of event) h.desks g.desks only.others (λ i x. AreIts k x) its j
            (λ other. m.talks j ours);
      };
  entered = λ e has. enters e (come.taken e has);
  named = come.named;
}

-- ---- a turn, and a Tick of its own

-- what a desk does in either
pub record WorksAt {K : Type 0} (k : Ghosts K) (n : ℕ) (event : HallEvent) (h g : Hall K) : Type 0
  where
    pub ours : IsDesk n (desk_of event)
    pub only : OnlyAt (desk_of event) (acts_of event) h g
    pub lead : Lead (Handles k) (h.desks (desk_of event)).node (calls_of (acts_of event))
        (g.desks (desk_of event)).node
    pub sent : AreSentTo (home_at k (h.desks (desk_of event))).desk h.sent
        (calls_of (acts_of event))
    pub talks : (j : ℕ)
        → ((g.desks (desk_of event)).talks j).home ≡ home_at k (h.desks (desk_of event))
    pub enters : (e : Entry) → IsTakenIn e (calls_of (acts_of event)) → Enters event e

pub turn_works : {K : Type 0} (k : Ghosts K) (n d : ℕ) (t : TurnOf) (acts : List Act)
    (h g : Hall K) → AreIts k (h.desks d) → TakesTurn k n d t acts h g
    → WorksAt k n (TurnAt d t acts) h g
turn_works {K} k n d t acts h g its step = record {
  ours = step.ours;
  only = step.only;
  lead = does.lead;
  sent = subst (λ z. AreSentTo z.desk h.sent (calls_of acts)) (its t.number) does.were_sent;
  talks = λ j. talks j (eqb j t.number) refl;
  enters = λ e taken.
      let by_frame = does.enters e taken in
      record { one = by_frame.0; begins = by_frame.1; asked = by_frame.2; taken = taken };
}
  where
    x : Station K
    x = h.desks d

    y : Station K
    y = g.desks d

    a : Place (speaking (Handles k) (Settles k) x.wire)
    a = place_of (connections k x.wire x) t.number

    b : Place (speaking (Handles k) (Settles k) x.wire)
    b = place_of (connections k x.wire y) t.number

    does : Does t.turn a b acts h.sent
    does =
        turn_does t.turn a b acts h.sent step.turn.turn step.done
        (subst (λ z. TurnWasSent z h.sent t.turn) (sym (its t.number)) step.brings)

    talks : (j : ℕ) (c : Bool) → eqb j t.number ≡ c → (y.talks j).home ≡ home_at k x
    talks j true is = ap (λ z. (y.talks z).home) (eqb-true j t.number is) ∙ does.home ∙ its t.number
    talks j false is = ap (λ z. z.home) (step.turn.others j (eqb-false j t.number is)) ∙ its j

pub tick_works : {K : Type 0} (k : Ghosts K) (n d : ℕ) (one : Begun) (acts : List Act)
    (h g : Hall K) → AreIts k (h.desks d) → TicksItself k n d one acts h g
    → WorksAt k n (TickedAt d one acts) h g
tick_works {K} k n d one acts h g its step =
    let x = h.desks d in
    let brings : WereSentTo (home_at k x).desk h.sent (delivers (asked (home_at k x) one)) =
    subst (λ r. WereSentTo (home_at k x).desk h.sent (delivers r)) (sym step.asked) tt in
    record {
      ours = step.ours;
      only = step.only;
      lead = step.made.calls;
      sent =
          front_sent (home_at k x).desk h.sent
          (serve_frame (home_at k x) (seen_of x.node) one).acts acts step.rest step.parts
          (one_frame (home_at k x) (seen_of x.node) h.sent one brings);
      talks = λ j. ap (λ z. z.home) (step.talks j) ∙ its j;
      enters = λ e taken.
          absurd (tick_takes_none (home_at k x) (seen_of x.node) one acts step.rest e step.asked
          step.parts taken);
    }

works_come : {K : Type 0} (k : Ghosts K) → CallsAreHappenings k → (n : ℕ) (event : HallEvent)
    (h g : Hall K) (w : World) → Matches k n h w → WorksAt k n event h g → StepComes k n event g w
works_come k law n event h g w m does =
    let d = desk_of event in
    let acts = acts_of event in
    let x = h.desks d in
    let y = g.desks d in
    let sent : AreSentTo (desk_of event) h.sent (calls_of (acts_of event)) =
    subst (λ z. AreSentTo z h.sent (calls_of (acts_of event)))
    (m.nodes.here (desk_of event) does.ours).stands.desk does.sent in
    comes k n event h g w m does.only
    (calls_step k n d (nodes_of h) (nodes_of g) w m.nodes does.ours law acts
    (only_nodes d acts h g does.only) sent does.lead)
    (λ j. does.talks j ∙ sym (home_after k (calls_of acts) x.node y.node does.lead)) does.enters

-- ---- any step

cut_comes : {K : Type 0} (k : Ghosts K) → CallsAreHappenings k → (n d : ℕ) (one : Begun)
    (acts : List Act) (h g : Hall K) (w : World) → Matches k n h w → IsCut k n d one acts h g
    → StepComes k n (CutAt d one acts) g w
cut_comes k law n d one acts h g w m cut =
    let x = h.desks d in
    let all = (serve_frame (home_at k x) (seen_of x.node) one).acts in
    comes k n (CutAt d one acts) h g w m cut.only
    (cut_step k n d (nodes_of h) (nodes_of g) w m.nodes cut.ours law all acts cut.rest cut.node
    cut.keeper (only_nodes d acts h g cut.only) cut.parts
    (subst (λ u. AreSentTo u h.sent (calls_of all)) (m.nodes.here d cut.ours).stands.desk
    (one_frame (home_at k x) (seen_of x.node) h.sent one cut.brings))
    cut.calls cut.store cut.opened.opens cut.opened.honest)
    (λ j. ap (λ z. z.home) (cut.opened.talks j))
    (λ e taken. record {
      one = one;
      begins = refl;
      asked = frame_enters (home_at k x) (seen_of x.node) one acts cut.rest e cut.parts taken;
      taken = taken;
    })

pub step_comes : {K : Type 0} (k : Ghosts K) → CallsAreHappenings k → (n : ℕ) (event : HallEvent)
    (h g : Hall K) (w : World) → Matches k n h w → HallGoes k n event h g → StepComes k n event g w
step_comes k law n (TurnAt d t acts) h g w m step =
    works_come k law n (TurnAt d t acts) h g w m
    (turn_works k n d t acts h g (m.talks d step.ours) step)
step_comes k law n (TickedAt d one acts) h g w m step =
    works_come k law n (TickedAt d one acts) h g w m
    (tick_works k n d one acts h g (m.talks d step.ours) step)
step_comes k law n (SettledAt d) h g w m step =
    comes k n (SettledAt d) h g w m step.only
    (settling_step k n d (nodes_of h) (nodes_of g) w m.nodes step.ours
    (only_nodes d [] h g step.only) step.settles)
    (λ j. ap (λ z. z.home) (step.talks j) ∙ m.talks d step.ours j ∙ sym step.settles.home)
    (λ e none. absurd none)
step_comes k law n (OpenedAt d) h g w m step =
    comes k n (OpenedAt d) h g w m step.only
    (opening_step k n d (nodes_of h) (nodes_of g) w m.nodes step.ours step.keeper
    (only_nodes d [] h g step.only) step.store step.opened.opens step.opened.honest)
    (λ j. ap (λ z. z.home) (step.opened.talks j)) (λ e none. absurd none)
step_comes k law n (CutAt d one acts) h g w m step = cut_comes k law n d one acts h g w m step
