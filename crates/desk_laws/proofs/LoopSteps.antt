-- One step of desks that serve by the loop, in the world.
use Rattle.std.proofs.Common.{◌≡◌, refl, subst, ℕ, List, []}
use Rattle.acceptor.specs.declared.{entry.Entry.Entry, message.Message.Message}
use Rattle.learner.specs.Worlds.{World}
use Rattle.replica.specs.Nodes.{NodeValue}
use Rattle.serving.specs.{Connection.serve_frame, Making.calls_of, Serving.Act}
use Rattle.store.specs.declared.{home.Home.Home, keeper.Keeper.Ghosts}
use Rattle.hall_laws.specs.HallRuns.{FrameWasSent, IsTakenIn, Nodes}
use Rattle.hall_laws.specs.{Served.AreSentTo, Stops.CallsAreHappenings}
use Rattle.hall_laws.proofs.{HallEntries.frame_enters, OwnMessages.front_sent, Traces.Comes}
use Rattle.hall_laws.proofs.HallNodes.{NodesCome, NodesMatch, calls_step, cut_step, opening_step}
use Rattle.hall_laws.proofs.{HallNodes.settling_step, OwnMessages.one_frame}
use Rattle.desk_laws.specs.LoopRuns.{BeginsIn, DoesAt, Doing, IsDone, LoopEvent, LoopGoes, OpensAt}
use Rattle.desk_laws.specs.LoopRuns.{SettlesAt, StopsAt, TakesIn, home_in}

-- what a step comes to
abbrev pub StepComes : {K : Type 0} → Ghosts K → ℕ → LoopEvent → Nodes K → World → Type 0
StepComes {K} k n event b w =
    Comes (λ (a : Nodes K) v. NodesMatch k n a v) (λ e. TakesIn event e) n b w

comes : {K : Type 0} (k : Ghosts K) (n d : ℕ) (event : LoopEvent) (acts : List Act) (b : Nodes K)
    (w : World) → NodesCome k n d acts b w
    → ((e : Entry) → IsTakenIn e (calls_of acts) → TakesIn event e) → StepComes k n event b w
comes k n d event acts b w come takes = record {
  hs = come.hs;
  so = come.matches;
  entered = λ e has. takes e (come.taken e has);
}

-- all messages of the calls were sent, where what the frame brings was
were_sent : {K : Type 0} (k : Ghosts K) (d : ℕ) (sent : List Message) (doing : Doing)
    (x y : NodeValue K) → (it : IsDone k (home_in k x) doing x y) → (home_in k x).desk ≡ d
    → FrameWasSent (home_in k x) sent doing.one
    → AreSentTo d sent (calls_of (serve_frame (home_in k x) it.seen doing.one).acts)
were_sent k d sent doing x y it same brings =
    subst (λ u. AreSentTo u sent (calls_of (serve_frame (home_in k x) it.seen doing.one).acts)) same
    (one_frame (home_in k x) it.seen sent doing.one brings)

-- an entry that is taken is of the frame
of_frame : {K : Type 0} (k : Ghosts K) (home : Home) (doing : Doing) (x y : NodeValue K)
    (event : LoopEvent) (e : Entry)
    → IsDone k home doing x y → BeginsIn event doing → IsTakenIn e (calls_of doing.acts)
    → TakesIn event e
of_frame k home doing x y event e it begins taken = record {
  doing = doing;
  begins = begins;
  asked = frame_enters home it.seen doing.one doing.acts it.rest e it.parts taken;
  taken = taken;
}

pub step_comes : {K : Type 0} (k : Ghosts K) → CallsAreHappenings k → (n : ℕ) (event : LoopEvent)
    (a b : Nodes K) (w : World)
    → NodesMatch k n a w → LoopGoes k n event a b → StepComes k n event b w
step_comes k law n (DoesAt d doing) a b w m step =
    let x = a.node d in
    let all = (serve_frame (home_in k x) step.does.seen doing.one).acts in
    comes k n d (DoesAt d doing) doing.acts b w
    (calls_step k n d a b w m step.ours law doing.acts step.only
    (front_sent d a.sent all doing.acts step.does.rest step.does.parts
    (were_sent k d a.sent doing x (b.node d) step.does (m.here d step.ours).stands.desk
    step.brings)) step.does.calls) (λ e taken.
    of_frame k (home_in k x) doing x (b.node d) (DoesAt d doing) e step.does refl taken)
step_comes k law n (SettlesAt d) a b w m step =
    comes k n d (SettlesAt d) [] b w
    (settling_step k n d a b w m step.ours step.only step.settles) (λ e none. absurd none)
step_comes k law n (OpensAt d) a b w m step =
    comes k n d (OpensAt d) [] b w
    (opening_step k n d a b w m step.ours step.keeper step.only step.store step.opened.opens
    step.opened.honest)
    (λ e none. absurd none)
step_comes k law n (StopsAt d doing) a b w m cut =
    let x = a.node d in
    let all = (serve_frame (home_in k x) cut.does.seen doing.one).acts in
    comes k n d (StopsAt d doing) doing.acts b w
    (cut_step k n d a b w m cut.ours law all doing.acts cut.does.rest cut.node cut.keeper cut.only
    cut.does.parts
    (were_sent k d a.sent doing x cut.node cut.does (m.here d cut.ours).stands.desk cut.brings)
    cut.does.calls cut.store cut.opened.opens cut.opened.honest) (λ e taken.
    of_frame k (home_in k x) doing x cut.node (StopsAt d doing) e cut.does refl taken)
