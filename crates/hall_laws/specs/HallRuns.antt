-- Several desks that serve at once in one hall, each of them many connections by turns: what may
-- happen there, one event after the other, in any order (the project's own).
use Rattle.std.specs.Prelude.{ℕ, ◌≡◌, ◌≢◌, ◌≤◌, ◌⊎◌, true, false, IsOk, List, [], ◌∷◌, ◌++◌, length}
use Rattle.std.specs.Prelude.{Option, Some, slice_get, take}
use Rattle.acceptor.specs.declared.{entry.Entry.Entry, message.Message.Message}
use Rattle.answers.specs.{Answers.sheet_at, Seen.Seen}
use Rattle.formats.specs.declared.events.Event.{Event as EventOf}
use Rattle.learner.specs.{Desks.Desk, Desks.first_desk, declared.event.DeskEvent.TheVariants.Submit}
use Rattle.learner.specs.{Laws.IsPrefix, Ranges.AreInRange, Steps.IsDesk}
use Rattle.learner.specs.Worlds.{World, new_world}
use Rattle.replica.specs.{Handles.Handles, Handles.step_at, Stores.HoldsDesk, Stores.HoldsStep}
use Rattle.replica.specs.{Settles.Settles, Nodes.NodeValue, Opens.Opens}
use Rattle.serving.specs.{Adding.Push, Asking.request, Connection.serve_frame, Serving.Act}
use Rattle.serving.specs.Connection.{asked, Begun, Sides, DoesFront, answer_bytes, answer_frame}
use Rattle.serving.specs.Making.{Call, Lead, Makes, Outside, Way, calls_of, outside_of, speaking}
use Rattle.serving.specs.{Turns.Talk, Turns.new_talk, declared.ends.ConnectionEnd.ConnectionEnd}
use Rattle.serving.specs.TurnLaw.{Place, Turn, Began, sides_in}
use Rattle.serving.specs.declared.request.Request.TheVariants.{Printed, Ticked}
use Rattle.connections.specs.Connections.{Connections, Goes, TurnOf, place_of}
use Rattle.store.specs.declared.{home.Home.Home, keeper.Keeper.Ghosts}
use Rattle.wire.specs.declared.{frame.Frame.Frame, values.Version.Version}
use Rattle.formats.specs.declared.styles.SheetStyle.{SheetStyle as Style}
use Rattle.hall_laws.specs.{Arriving.delivers, Served.all_handed_out}
use Rattle.hall_laws.specs.OwnMessages.{WereSentTo, sent_after}
use Rattle.hall_laws.specs.Stops.{AreMoments, AreTaken, Happening, state_after}
use Rattle.serving.specs.declared.ends.ConnectionEnd.TheVariants as end
use Rattle.wire.specs.declared.frame.FrameBody.TheVariants as what

-- ---- a hall

-- a desk that serves: its node, its connections by their numbers, the version in which it pushes
-- frames, and what the other desks were handed, where that is known
pub record Station (K : Type 0) : Type 0 where
  pub node : NodeValue K
  pub talks : ℕ → Talk
  pub wire : Version
  pub handed : Option (List Push)

-- the desks of a hall by their numbers, and the messages that calls of them have handed out, in
-- order
pub record Hall (K : Type 0) : Type 0 where
  pub desks : ℕ → Station K
  pub sent : List Message

-- the nodes of the desks by the desks' numbers, and the messages that calls of them have handed
-- out, in order
pub record Nodes (K : Type 0) : Type 0 where
  pub node : ℕ → NodeValue K
  pub sent : List Message

abbrev pub nodes_of : {K : Type 0} → Hall K → Nodes K
nodes_of h = record { node = λ d. (h.desks d).node; sent = h.sent }

abbrev pub seen_of : {K : Type 0} → NodeValue K → Seen
seen_of node = record { desk = node.desk; is_down = node.is_down; told = node.told }

abbrev pub home_at : {K : Type 0} → Ghosts K → Station K → Home
home_at k x = k.home_of x.node.keeper

-- what is seen of a desk's connections, where frames are pushed in this version
abbrev pub connections : {K : Type 0} → (k : Ghosts K) → (version : Version) → Station K
    → Connections (speaking (Handles k) (Settles k) version)
connections k version x =
    record {
      talks = x.talks;
      seen = seen_of x.node;
      outside = outside_of (speaking (Handles k) (Settles k) version) x.node x.handed;
    }

-- ---- events

-- What happens in a hall, and what is done in it, calls and pushes in order: a desk makes a turn of
-- one of its connections; or it makes a Tick of its own, as it serves such a frame of a client; or
-- it settles what it has changed; or a desk that is between two turns, up or down, is opened again;
-- or a desk stops in the middle of a frame, or of a Tick of its own, with only these acts done, and
-- is opened again. `Lost` says what it comes to that a desk stops before it has settled.
pub data HallEvent : Type 0 where
  TurnAt : ℕ → TurnOf → List Act → HallEvent
  TickedAt : ℕ → Begun → List Act → HallEvent
  SettledAt : ℕ → HallEvent
  OpenedAt : ℕ → HallEvent
  CutAt : ℕ → Begun → List Act → HallEvent

abbrev pub acts_of : HallEvent → List Act
acts_of (TurnAt d t acts) = acts
acts_of (TickedAt d one acts) = acts
acts_of (SettledAt d) = []
acts_of (OpenedAt d) = []
acts_of (CutAt d one acts) = acts

-- the desk at which it happens
abbrev pub desk_of : HallEvent → ℕ
desk_of (TurnAt d t acts) = d
desk_of (TickedAt d one acts) = d
desk_of (SettledAt d) = d
desk_of (OpenedAt d) = d
desk_of (CutAt d one acts) = d

-- no other desk has changed, and what the calls among these acts hand out was sent
pub record OnlyAt {K : Type 0} (d : ℕ) (acts : List Act) (h g : Hall K) : Type 0 where
  pub others : (j : ℕ) → j ≢ d → g.desks j ≡ h.desks j
  pub sent : g.sent ≡ sent_after h.sent acts

-- no other node has changed, and what the calls among these acts hand out was sent
pub record OnlyNode {K : Type 0} (d : ℕ) (acts : List Act) (a b : Nodes K) : Type 0 where
  pub others : (j : ℕ) → j ≢ d → b.node j ≡ a.node j
  pub sent : b.sent ≡ sent_after a.sent acts

-- ---- a turn

-- what is done for a frame that was begun: all that it comes to, or a front part of it where memory
-- is refused
abbrev pub AreDoneFor : {V : Type 0} → {way : Way V} → Option ConnectionEnd → Home → Sides way
    → Sides way → Begun → List Act → Type 0
AreDoneFor (Some end.NoMemory) home a b one acts =
    (rest : List Act) × DoesFront home a b one acts rest
AreDoneFor _ home a b one acts = acts ≡ (serve_frame home a.seen one).acts

-- what is done in a turn: nothing where no frame is begun
abbrev pub AreDone : {V : Type 0} → {way : Way V} → Turn → Place way → Place way → List Act → Type 0
AreDone (Began one) a b acts =
    AreDoneFor b.talk.end a.talk.home (sides_in a a.talk.pending) (sides_in b b.talk.pending) one
    acts
AreDone _ a b acts = acts ≡ []

-- each message that a frame brings is for this desk, and a call of a desk of the hall has handed it
-- out before
abbrev pub FrameWasSent : Home → List Message → Begun → Type 0
FrameWasSent home sent one = WereSentTo home.desk sent (delivers (asked home one))

abbrev pub TurnWasSent : Home → List Message → Turn → Type 0
TurnWasSent home sent (Began one) = FrameWasSent home sent one
TurnWasSent home sent _ = Unit {0}

-- desk d makes a turn of one of its connections
pub record TakesTurn {K : Type 0} (k : Ghosts K) (n d : ℕ) (t : TurnOf) (acts : List Act)
    (h g : Hall K) : Type 0 where
  pub ours : IsDesk n d
  -- it is a turn, by the contracts of `serving`
  pub turn : let x = h.desks d in let y = g.desks d in
      Goes t (connections k x.wire x) (connections k x.wire y)
  pub wire : (g.desks d).wire ≡ (h.desks d).wire
  pub done : let x = h.desks d in let y = g.desks d in
      AreDone t.turn (place_of (connections k x.wire x) t.number)
      (place_of (connections k x.wire y) t.number) acts
  -- the premise on the network: what the frame brings was sent
  pub brings : TurnWasSent (home_at k (h.desks d)) h.sent t.turn
  pub only : OnlyAt d acts h g

-- ---- a Tick of its own

-- the frame asks the desk for a Tick, as a client does
abbrev pub IsTick : Home → Begun → Type 0
IsTick home one = asked home one ≡ Ticked

-- what there is beside what is seen of a desk that serves
abbrev pub beside : {K : Type 0} → (k : Ghosts K) → (version : Version) → Station K
    → Outside (speaking (Handles k) (Settles k) version)
beside k version x = outside_of (speaking (Handles k) (Settles k) version) x.node x.handed

-- Desk d makes a Tick without a client: what it does is what such a frame comes to, all of it or a
-- front part, where memory is refused. None of its connections has changed: nothing was read, begun
-- or counted there, and nothing is answered.
pub record TicksItself {K : Type 0} (k : Ghosts K) (n d : ℕ) (one : Begun) (acts : List Act)
    (h g : Hall K) : Type 0 where
  pub ours : IsDesk n d
  pub asked : IsTick (home_at k (h.desks d)) one
  pub rest : List Act
  pub parts : let x = h.desks d in
      (serve_frame (home_at k x) (seen_of x.node) one).acts ≡ acts ++ rest
  pub made : let x = h.desks d in
      Makes (home_at k x).hall (beside k x.wire x) (beside k x.wire (g.desks d)) acts
  pub talks : (j : ℕ) → (g.desks d).talks j ≡ (h.desks d).talks j
  pub wire : (g.desks d).wire ≡ (h.desks d).wire
  pub only : OnlyAt d acts h g

-- ---- a desk that settles

-- desk d commits what it has changed, and nothing else happens
pub record SettlesAt {K : Type 0} (k : Ghosts K) (n d : ℕ) (h g : Hall K) : Type 0 where
  pub ours : IsDesk n d
  pub settles : Settles k (h.desks d).node true (g.desks d).node
  pub talks : (j : ℕ) → (g.desks d).talks j ≡ (h.desks d).talks j
  pub wire : (g.desks d).wire ≡ (h.desks d).wire
  pub only : OnlyAt d [] h g

-- ---- a desk that is opened

-- a desk that was opened over a keeper: none of its connections had a turn
pub record IsOpened {K : Type 0} (k : Ghosts K) (keeper : K) (x : Station K) : Type 0 where
  pub opens : Opens k keeper x.node
  -- the premise on files: the store gives back what was written to it, and nobody else writes it
  pub honest : k.is_honest x.node.keeper
  pub talks : (j : ℕ) → x.talks j ≡ new_talk (home_at k x) x.wire

-- a keeper of the same desk's store, where this state was found, which the other one may hold
pub record IsSameStore {K : Type 0} (k : Ghosts K) (old keeper : K) (found : Desk) : Type 0 where
  pub home : k.home_of keeper ≡ k.home_of old
  pub honest : k.is_honest keeper → k.is_honest old
  pub held : k.may_hold old found.stored found.log

-- desk d is opened again, over its store
pub record OpensAgain {K : Type 0} (k : Ghosts K) (n d : ℕ) (h g : Hall K) : Type 0 where
  pub ours : IsDesk n d
  pub keeper : K
  pub store : IsSameStore k (h.desks d).node.keeper keeper (g.desks d).node.desk
  pub opened : IsOpened k keeper (g.desks d)
  pub only : OnlyAt d [] h g

-- The desk stopped while it saved in the call that comes next: its store holds the state before
-- that call or the state after it.
pub record StopsInSave {K : Type 0} (k : Ghosts K) (x : NodeValue K) (keeper : K)
    (rest : List Act) : Type 0 where
  pub up : x.is_down ≡ false
  pub home : k.home_of keeper ≡ k.home_of x.keeper
  pub next : Call
  pub later : List Call
  pub calls : calls_of rest ≡ next ∷ later
  pub left : HoldsStep k keeper x.desk (step_at (k.home_of x.keeper) x.desk next.event)

-- the frame is the next one of one of the connections
abbrev pub WaitsAt : {K : Type 0} → Station K → Begun → Type 0
WaitsAt x one = (number : ℕ) × (more : List Frame) × ((x.talks number).waiting ≡ one.frame ∷ more)

-- desk d has begun the next frame of one of its connections, or a Tick of its own, and stops after
-- these acts, between two calls or in the next one; then it is opened again
pub record IsCut {K : Type 0} (k : Ghosts K) (n d : ℕ) (one : Begun) (acts : List Act)
    (h g : Hall K) : Type 0 where
  pub ours : IsDesk n d
  pub next : WaitsAt (h.desks d) one ⊎ IsTick (home_at k (h.desks d)) one
  -- the premise on the network
  pub brings : FrameWasSent (home_at k (h.desks d)) h.sent one
  pub rest : List Act
  pub parts : let x = h.desks d in
      (serve_frame (home_at k x) (seen_of x.node) one).acts ≡ acts ++ rest
  -- the node as it stopped
  pub node : NodeValue K
  pub calls : Lead (Handles k) (h.desks d).node (calls_of acts) node
  pub keeper : K
  pub store : IsSameStore k node.keeper keeper (g.desks d).node.desk
      ⊎ StopsInSave k node keeper rest
  pub opened : IsOpened k keeper (g.desks d)
  pub only : OnlyAt d acts h g

-- ---- a run

-- the event leads from the one to the other, in a hall of n desks
abbrev pub HallGoes : {K : Type 0} → Ghosts K → ℕ → HallEvent → Hall K → Hall K → Type 0
HallGoes k n (TurnAt d t acts) h g = TakesTurn k n d t acts h g
HallGoes k n (TickedAt d one acts) h g = TicksItself k n d one acts h g
HallGoes k n (SettledAt d) h g = SettlesAt k n d h g
HallGoes k n (OpenedAt d) h g = OpensAgain k n d h g
HallGoes k n (CutAt d one acts) h g = IsCut k n d one acts h g

-- an event, and the hall after it
pub record HallStep (K : Type 0) : Type 0 where
  pub event : HallEvent
  pub after : Hall K

abbrev pub AreSteps : {K : Type 0} → Ghosts K → ℕ → Hall K → List (HallStep K) → Type 0
AreSteps {K} k n h steps =
    AreTaken (λ (s : HallStep K). s.after) (λ g s. HallGoes k n s.event g s.after) h steps

-- the node of desk d of n, that was opened over an empty store
pub record IsFirstNode {K : Type 0} (k : Ghosts K) (n d : ℕ) (x : NodeValue K) : Type 0 where
  pub desks : (k.home_of x.keeper).desks ≡ n
  pub desk : (k.home_of x.keeper).desk ≡ d
  pub first : x.desk ≡ first_desk
  pub stored : HoldsDesk k x.keeper first_desk

-- desk d of n, that was opened so
pub record IsFirst {K : Type 0} (k : Ghosts K) (n d : ℕ) (x : Station K) : Type 0 where
  pub node : IsFirstNode k n d x.node
  pub talks : (j : ℕ) → x.talks j ≡ new_talk (home_at k x) x.wire

-- A run of a hall of n desks: at first each was opened over an empty store and nothing was sent,
-- and then these steps were taken.
pub record IsHallRun {K : Type 0} (k : Ghosts K) (n : ℕ) (h : Hall K)
    (steps : List (HallStep K)) : Type 0 where
  pub first : (d : ℕ) → IsDesk n d → IsFirst k n d (h.desks d)
  pub unsent : h.sent ≡ []
  pub taken : AreSteps k n h steps

-- the hall after these steps
abbrev pub hall_after : {K : Type 0} → Hall K → List (HallStep K) → Hall K
hall_after {K} h steps = state_after (λ (s : HallStep K). s.after) h steps

-- the log of desk d after the first i steps
abbrev pub hall_log : {K : Type 0} → Hall K → List (HallStep K) → ℕ → ℕ → List Entry
hall_log h steps i d = ((hall_after h (take i steps)).desks d).node.desk.log

-- ---- what holds of every run

-- each desk knows what the world's desk knows, and what was sent here was sent there
pub record AreWorld {K : Type 0} (n : ℕ) (a : Nodes K) (w : World) : Type 0 where
  pub desks : (d : ℕ) → IsDesk n d → (a.node d).desk ≡ w.desks d
  pub sent : a.sent ≡ w.sent

abbrev pub IsWorld : {K : Type 0} → ℕ → Hall K → World → Type 0
IsWorld n h w = AreWorld n (nodes_of h) w

-- so it is at first, and after each step, where each step is these happenings
abbrev pub AreHappenings : {K : Type 0} → ℕ → Hall K → World → List (HallStep K)
    → List (List Happening) → Type 0
AreHappenings {K} n h w steps each =
    AreMoments (λ (s : HallStep K). s.after) (λ g v. IsWorld n g v) n h w steps each

-- the calls of all desks together are a run of the world
abbrev pub HallsAreRuns : {K : Type 0} → Ghosts K → Type 0
HallsAreRuns {K} k =
    (n : ℕ) (h : Hall K) (steps : List (HallStep K)) → IsHallRun k n h steps
    → (each : List (List Happening)) × AreHappenings n h new_world steps each

-- each message names the desk that has sent it: what the calls of a step hand out is from the desk
-- of that step, to a desk of the hall, with its fields in their ranges
abbrev pub HallMessagesAreNamed : {K : Type 0} → Ghosts K → Type 0
HallMessagesAreNamed {K} k =
    (n : ℕ) (h : Hall K) (steps : List (HallStep K)) (at : ℕ) (step : HallStep K)
    → IsHallRun k n h steps → slice_get steps at ≡ Some step
    → AreInRange n (desk_of step.event) (all_handed_out (calls_of (acts_of step.event)))

-- of the logs of any two desks of it at any two moments one is a prefix of the other
abbrev pub HallLogsAgree : {K : Type 0} → Ghosts K → Type 0
HallLogsAgree {K} k =
    (n : ℕ) (h : Hall K) (steps : List (HallStep K)) (i j d f : ℕ)
    → IsHallRun k n h steps → IsDesk n d → IsDesk n f
    → IsPrefix (hall_log h steps i d) (hall_log h steps j f)
    ⊎ IsPrefix (hall_log h steps j f) (hall_log h steps i d)

-- one of the calls submits the entry, and is answered Ok
abbrev pub IsTakenIn : Entry → List Call → Type 0
IsTakenIn e [] = ⊥
IsTakenIn e (c ∷ cs) = ((c.event ≡ Submit e) × IsOk c.answer) ⊎ IsTakenIn e cs

-- what is done in the event is done for this frame of a connection
abbrev pub BeginsIn : HallEvent → Begun → Type 0
BeginsIn (TurnAt d t acts) one = t.turn ≡ Began one
BeginsIn (CutAt d cut acts) one = cut ≡ one
BeginsIn _ one = ⊥

-- a desk begins a frame that submits the entry, and accepts the entry
pub record Enters (event : HallEvent) (e : Entry) : Type 0 where
  pub one : Begun
  pub begins : BeginsIn event one
  pub asked : one.frame.what ≡ what.Submit e
  pub taken : IsTakenIn e (calls_of (acts_of event))

-- every entry of a log was submitted before, by a frame that came to a desk of the hall in one of
-- the steps, which accepted it
abbrev pub HallEntriesAreSubmitted : {K : Type 0} → Ghosts K → Type 0
HallEntriesAreSubmitted {K} k =
    (n : ℕ) (h : Hall K) (steps : List (HallStep K)) (i d pos : ℕ) (e : Entry)
    → IsHallRun k n h steps → IsDesk n d → slice_get (hall_log h steps i d) pos ≡ Some e
    → (at : ℕ) × (step : HallStep K) × (slice_get (take i steps) at ≡ Some step)
    × Enters step.event e

-- ---- what connections are answered

-- in the step after the first `at` desk d begins this frame of one of its connections, and the
-- connection does not end for want of memory
pub record ServesAt {K : Type 0} (steps : List (HallStep K)) (at d number : ℕ) (one : Begun)
    (step : HallStep K) : Type 0 where
  pub here : slice_get steps at ≡ Some step
  pub acts : List Act
  pub turn : step.event ≡ TurnAt d (record { number = number; turn = Began one }) acts
  pub whole : ((step.after.desks d).talks number).end ≢ Some end.NoMemory

-- Then what waits on that connection for its client is exactly the spelling of this frame's answer,
-- as the desk before the step gives it.
abbrev pub HallAnswersWait : {K : Type 0} → Ghosts K → Type 0
HallAnswersWait {K} k =
    (n : ℕ) (h : Hall K) (steps : List (HallStep K)) (at d number : ℕ) (one : Begun)
    (step : HallStep K) → IsHallRun k n h steps → ServesAt steps at d number one step
    → let x = (hall_after h (take at steps)).desks d in
    ((step.after.desks d).talks number).pending
    ≡ answer_bytes (serve_frame (home_at k x) (seen_of x.node) one).answers

-- ---- sheets

-- what a client asks a sheet of
pub record SheetAsked : Type 0 where
  pub event : EventOf
  pub round : ℕ
  pub position : ℕ
  pub style : Style

-- in the step after the first `at` desk d begins a frame that asks for this sheet, on one of its
-- connections, and its answer is a SheetText with this text
pub record AnswersSheet {K : Type 0} (k : Ghosts K) (h : Hall K) (steps : List (HallStep K))
    (at d : ℕ) (sheet : SheetAsked) (text : List ℕ) : Type 0 where
  pub step : HallStep K
  pub number : ℕ
  pub one : Begun
  pub serves : ServesAt steps at d number one step
  pub asked : request (home_at k ((hall_after h (take at steps)).desks d)) one.frame
      ≡ Printed sheet.event sheet.round sheet.position sheet.style
  pub answered : let x = (hall_after h (take at steps)).desks d in
      (serve_frame (home_at k x) (seen_of x.node) one).answers
      ≡ answer_frame one.frame.version (home_at k x) (what.SheetText text) ∷ []

-- the sheet of a log, where the log is that long
abbrev pub IsSheetOf : List Entry → SheetAsked → List ℕ → Type 0
IsSheetOf log sheet text =
    (sheet.position ≤ length log)
    × (sheet_at sheet.style log sheet.position sheet.event sheet.round ≡ Some text)

-- a sheet that any desk answers on any connection is the Regulations' sheet of its log then
abbrev pub HallSheetsAreOfLogs : {K : Type 0} → Ghosts K → Type 0
HallSheetsAreOfLogs {K} k =
    (h : Hall K) (steps : List (HallStep K)) (at d : ℕ) (sheet : SheetAsked) (text : List ℕ)
    → AnswersSheet k h steps at d sheet text → IsSheetOf (hall_log h steps at d) sheet text

-- and no two sheets that are asked for alike differ, whichever desks answered them, and whenever
-- they did
abbrev pub HallSheetsAgree : {K : Type 0} → Ghosts K → Type 0
HallSheetsAgree {K} k =
    (n : ℕ) (h : Hall K) (steps : List (HallStep K)) (i j d f : ℕ) (sheet : SheetAsked)
    (text other : List ℕ) → IsHallRun k n h steps → IsDesk n d → IsDesk n f
    → AnswersSheet k h steps i d sheet text → AnswersSheet k h steps j f sheet other → text ≡ other

-- ---- that nothing is left out

-- Each turn that a desk of the hall makes is such an event, where what its frame brings was sent.
abbrev pub TurnsAreEvents : {K : Type 0} → Ghosts K → Type 0
TurnsAreEvents {K} k =
    (n d : ℕ) (h : Hall K) (t : TurnOf) (y : Station K) → IsDesk n d → y.wire ≡ (h.desks d).wire
    → Goes t (connections k (h.desks d).wire (h.desks d)) (connections k (h.desks d).wire y)
    → TurnWasSent (home_at k (h.desks d)) h.sent t.turn
    → (acts : List Act) × (g : Hall K) × (g.desks d ≡ y) × HallGoes k n (TurnAt d t acts) h g

-- And so is each Tick of its own that it makes: what it did is what such a frame of a client comes
-- to, or a front part of it, and its connections stayed as they were.
abbrev pub OwnTicksAreEvents : {K : Type 0} → Ghosts K → Type 0
OwnTicksAreEvents {K} k =
    (n d : ℕ) (h : Hall K) (one : Begun) (acts rest : List Act) (y : Station K)
    → IsDesk n d → y.wire ≡ (h.desks d).wire → ((j : ℕ) → y.talks j ≡ (h.desks d).talks j)
    → IsTick (home_at k (h.desks d)) one
    → (serve_frame (home_at k (h.desks d)) (seen_of (h.desks d).node) one).acts ≡ acts ++ rest
    → Makes (home_at k (h.desks d)).hall (beside k (h.desks d).wire (h.desks d))
    (beside k (h.desks d).wire y) acts
    → (g : Hall K) × (g.desks d ≡ y) × HallGoes k n (TickedAt d one acts) h g

-- And so is each settling that is answered so.
abbrev pub SettlingsAreEvents : {K : Type 0} → Ghosts K → Type 0
SettlingsAreEvents {K} k =
    (n d : ℕ) (h : Hall K) (y : Station K)
    → IsDesk n d → y.wire ≡ (h.desks d).wire → ((j : ℕ) → y.talks j ≡ (h.desks d).talks j)
    → Settles k (h.desks d).node true y.node
    → (g : Hall K) × (g.desks d ≡ y) × HallGoes k n (SettledAt d) h g
