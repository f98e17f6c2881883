-- Desks that serve by the program's own loop, with keys and sealed streams, with Ticks of their
-- own: what may happen to them, one event after the other, in any order, and what becomes of it.
use Rattle.std.specs.Prelude.{ℕ, ◌≡◌, ◌⊎◌, Bool, true, List, [], ◌∷◌, ◌++◌, Option, Some}
use Rattle.std.specs.Prelude.{slice_get, take}
use Rattle.acceptor.specs.declared.entry.Entry.{Entry}
use Rattle.answers.specs.Seen.{Seen}
use Rattle.learner.specs.{Laws.IsPrefix, Steps.IsDesk}
use Rattle.learner.specs.Worlds.{World, new_world}
use Rattle.multiplex.specs.EachClient.{AreDoneInTurn, Deed, Frame, OwnTick, Settling}
use Rattle.polled.specs.Happenings.{Happened}
use Rattle.multiplex.specs.Passing.{IsServedEach, Room, Step, point_in}
use Rattle.multiplex.specs.declared.ends.ServingsOutcome.{ServingsOutcome}
use Rattle.multiplex.specs.declared.table.ServingOptions.{ServingOptions}
use Rattle.replica.specs.{Handles.Handles, Settles.Settles, Nodes.NodeValue, Opens.Opens}
use Rattle.serving.specs.{Connection.Begun, Connection.serve_frame, Serving.Act}
use Rattle.serving.specs.Making.{Lead, calls_of, speaking}
use Rattle.store.specs.declared.{home.Home.Home, keeper.Keeper.Ghosts}
use Rattle.hall_laws.specs.HallRuns.{AreWorld, FrameWasSent, IsFirstNode, IsSameStore, IsTakenIn}
use Rattle.hall_laws.specs.HallRuns.{IsTick, Nodes, OnlyNode, StopsInSave}
use Rattle.hall_laws.specs.Stops.{AreMoments, AreTaken, Happening, state_after}
use Rattle.wire.specs.declared.frame.FrameBody.TheVariants as what

-- ---- what a desk does

-- what a desk does for a frame of a client, for one by which it says something to itself, or for
-- the one that stands for a Tick of its own: calls and pushes, in order
pub record Doing : Type 0 where
  pub one : Begun
  pub acts : List Act

-- it is all that the frame comes to, whatever was seen of the desk, or a front part of it; and its
-- calls lead from the one node to the other
pub record IsDone {K : Type 0} (k : Ghosts K) (home : Home) (doing : Doing)
    (x y : NodeValue K) : Type 0 where
  pub seen : Seen
  pub rest : List Act
  pub parts : (serve_frame home seen doing.one).acts ≡ doing.acts ++ rest
  pub calls : Lead (Handles k) x (calls_of doing.acts) y

-- a desk does that, or settles what it has changed, or that fails
pub data Did : Type 0 where
  Done : Doing → Did
  Settled : Bool → Did

-- one after the other
abbrev pub AreDone : {K : Type 0} → Ghosts K → Home → NodeValue K → List Did → NodeValue K → Type 0
AreDone k home x [] y = x ≡ y
AreDone {K} k home x (Done doing ∷ more) y =
    (z : NodeValue K) × IsDone k home doing x z × AreDone k home z more y
AreDone {K} k home x (Settled ok ∷ more) y =
    (z : NodeValue K) × Settles k x ok z × AreDone k home z more y

-- it is done for this frame, or for a Tick of the desk's own, or it is that settling
abbrev pub IsFor : Home → Deed → Did → Type 0
IsFor home (Frame own f) (Done doing) = doing.one ≡ f.one
IsFor home (OwnTick starved) (Done doing) = IsTick home doing.one
IsFor home (Settling ok) (Settled same) = same ≡ ok
IsFor home (Frame own f) (Settled ok) = ⊥
IsFor home (OwnTick starved) (Settled ok) = ⊥
IsFor home (Settling ok) (Done doing) = ⊥

abbrev pub AreFor : Home → List Deed → List Did → Type 0
AreFor home [] [] = Unit {0}
AreFor home (deed ∷ deeds) (doing ∷ doings) = IsFor home deed doing × AreFor home deeds doings
AreFor home [] (doing ∷ doings) = ⊥
AreFor home (deed ∷ deeds) [] = ⊥

-- What a desk does while it serves clients by the loop is such: for each frame that is begun, and
-- for each Tick of its own, with what it settles between them, in order, from its node before to
-- its node after.
abbrev pub ServingsAreDoings : {K : Type 0} → Ghosts K → Type 0
ServingsAreDoings {K} k =
    (result : ServingsOutcome) (home : Home) (t : ServingOptions) (period : Option ℕ)
    (a b : Room (speaking (Handles k) (Settles k) t.wire)) (before after : Option (List Happened))
    (steps : List Step) → IsServedEach result home t period a b before after steps
    → (deeds : List Deed) × (doings : List Did)
    × AreDoneInTurn home (point_in a) deeds (point_in b) × AreFor home deeds doings
    × AreDone k home a.outside.node doings b.outside.node

-- ---- the desks of a hall

abbrev pub home_in : {K : Type 0} → Ghosts K → NodeValue K → Home
home_in k x = k.home_of x.keeper

-- A desk does that; or it settles what it has changed; or it is opened again, after it ended or was
-- stopped between two of these; or it stops in the middle of one, with a front part of it done, and
-- is opened again.
pub data LoopEvent : Type 0 where
  DoesAt : ℕ → Doing → LoopEvent
  SettlesAt : ℕ → LoopEvent
  OpensAt : ℕ → LoopEvent
  StopsAt : ℕ → Doing → LoopEvent

pub record Does {K : Type 0} (k : Ghosts K) (n d : ℕ) (doing : Doing) (a b : Nodes K) : Type 0
  where
    pub ours : IsDesk n d
    pub does : IsDone k (home_in k (a.node d)) doing (a.node d) (b.node d)
    -- the premise on messages: what the frame brings was sent
    pub brings : FrameWasSent (home_in k (a.node d)) a.sent doing.one
    pub only : OnlyNode d doing.acts a b

pub record SettlesOnce {K : Type 0} (k : Ghosts K) (n d : ℕ) (a b : Nodes K) : Type 0 where
  pub ours : IsDesk n d
  pub settles : Settles k (a.node d) true (b.node d)
  pub only : OnlyNode d [] a b

-- the node was opened over this keeper, whose store gave back what was written to it
pub record IsOpened {K : Type 0} (k : Ghosts K) (keeper : K) (y : NodeValue K) : Type 0 where
  pub opens : Opens k keeper y
  -- the premise on files
  pub honest : k.is_honest y.keeper

pub record OpensAgain {K : Type 0} (k : Ghosts K) (n d : ℕ) (a b : Nodes K) : Type 0 where
  pub ours : IsDesk n d
  pub keeper : K
  pub store : IsSameStore k (a.node d).keeper keeper (b.node d).desk
  pub opened : IsOpened k keeper (b.node d)
  pub only : OnlyNode d [] a b

pub record Stops {K : Type 0} (k : Ghosts K) (n d : ℕ) (doing : Doing) (a b : Nodes K) : Type 0
  where
    pub ours : IsDesk n d
    -- the node as it stopped, between two calls or in the next one
    pub node : NodeValue K
    pub does : IsDone k (home_in k (a.node d)) doing (a.node d) node
    pub brings : FrameWasSent (home_in k (a.node d)) a.sent doing.one
    pub keeper : K
    pub store : IsSameStore k node.keeper keeper (b.node d).desk
        ⊎ StopsInSave k node keeper does.rest
    pub opened : IsOpened k keeper (b.node d)
    pub only : OnlyNode d doing.acts a b

abbrev pub LoopGoes : {K : Type 0} → Ghosts K → ℕ → LoopEvent → Nodes K → Nodes K → Type 0
LoopGoes k n (DoesAt d doing) a b = Does k n d doing a b
LoopGoes k n (SettlesAt d) a b = SettlesOnce k n d a b
LoopGoes k n (OpensAt d) a b = OpensAgain k n d a b
LoopGoes k n (StopsAt d doing) a b = Stops k n d doing a b

-- ---- a run

-- an event, and the desks after it
pub record LoopStep (K : Type 0) : Type 0 where
  pub event : LoopEvent
  pub after : Nodes K

abbrev pub AreLoopSteps : {K : Type 0} → Ghosts K → ℕ → Nodes K → List (LoopStep K) → Type 0
AreLoopSteps {K} k n a steps =
    AreTaken (λ (s : LoopStep K). s.after) (λ b s. LoopGoes k n s.event b s.after) a steps

pub record IsLoopRun {K : Type 0} (k : Ghosts K) (n : ℕ) (a : Nodes K)
    (steps : List (LoopStep K)) : Type 0 where
  pub first : (d : ℕ) → IsDesk n d → IsFirstNode k n d (a.node d)
  pub unsent : a.sent ≡ []
  pub taken : AreLoopSteps k n a steps

abbrev pub loops_after : {K : Type 0} → Nodes K → List (LoopStep K) → Nodes K
loops_after {K} a steps = state_after (λ (s : LoopStep K). s.after) a steps

-- the log of desk d after the first i steps
abbrev pub loop_log : {K : Type 0} → Nodes K → List (LoopStep K) → ℕ → ℕ → List Entry
loop_log a steps i d = ((loops_after a (take i steps)).node d).desk.log

-- ---- what holds of every run

-- At first, and after each step, each desk knows what the world's desk knows, and what was sent
-- here was sent there, where each step is these happenings.
abbrev pub AreHappenings : {K : Type 0} → ℕ → Nodes K → World → List (LoopStep K)
    → List (List Happening) → Type 0
AreHappenings {K} n a w steps each =
    AreMoments (λ (s : LoopStep K). s.after) (λ b v. AreWorld n b v) n a w steps each

-- the calls of all desks together are a run of the world
abbrev pub LoopsAreRuns : {K : Type 0} → Ghosts K → Type 0
LoopsAreRuns {K} k =
    (n : ℕ) (a : Nodes K) (steps : List (LoopStep K)) → IsLoopRun k n a steps
    → (each : List (List Happening)) × AreHappenings n a new_world steps each

-- of the logs of any two desks at any two moments one is a prefix of the other
abbrev pub LoopLogsAgree : {K : Type 0} → Ghosts K → Type 0
LoopLogsAgree {K} k =
    (n : ℕ) (a : Nodes K) (steps : List (LoopStep K)) (i j d f : ℕ)
    → IsLoopRun k n a steps → IsDesk n d → IsDesk n f
    → IsPrefix (loop_log a steps i d) (loop_log a steps j f)
    ⊎ IsPrefix (loop_log a steps j f) (loop_log a steps i d)

-- a desk does so for a frame, or stops while it does
abbrev pub BeginsIn : LoopEvent → Doing → Type 0
BeginsIn (DoesAt d it) doing = it ≡ doing
BeginsIn (SettlesAt d) doing = ⊥
BeginsIn (OpensAt d) doing = ⊥
BeginsIn (StopsAt d it) doing = it ≡ doing

-- a desk accepts the entry of a frame that submits it
pub record TakesIn (event : LoopEvent) (e : Entry) : Type 0 where
  pub doing : Doing
  pub begins : BeginsIn event doing
  pub asked : doing.one.frame.what ≡ what.Submit e
  pub taken : IsTakenIn e (calls_of doing.acts)

-- of every entry of a log a desk did so in one of the steps before
abbrev pub LoopEntriesAreSubmitted : {K : Type 0} → Ghosts K → Type 0
LoopEntriesAreSubmitted {K} k =
    (n : ℕ) (a : Nodes K) (steps : List (LoopStep K)) (i d pos : ℕ) (e : Entry)
    → IsLoopRun k n a steps → IsDesk n d → slice_get (loop_log a steps i d) pos ≡ Some e
    → (at : ℕ) × (step : LoopStep K) × (slice_get (take i steps) at ≡ Some step)
    × TakesIn step.event e
