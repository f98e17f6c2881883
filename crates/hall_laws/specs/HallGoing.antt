-- How a hall can continue at every moment of its runs: a desk ticks itself, or a frame comes to a
-- desk over a connection of its own. Turns of connections make whatever such a request comes to at
-- the desk.
use Rattle.std.specs.Prelude.{ℕ, ◌≡◌, ◌⊎◌, true, false, List, [], ◌∷◌, ◌++◌, length, map, None}
use Rattle.acceptor.specs.declared.{entry.Entry.Entry, message.Message.Message}
use Rattle.learner.specs.{Steps.IsDesk, Worlds.World, declared.event.DeskEvent.DeskEvent}
use Rattle.answers.specs.Seen.{Seen}
use Rattle.learner.specs.declared.event.DeskEvent.TheVariants.{Deliver, Start}
use Rattle.serving.specs.{declared.permission.Permission.TheVariants.All, Asking.request}
use Rattle.serving.specs.{Connection.Begun, Connection.close_of, TurnLaw.Came, TurnLaw.Began}
use Rattle.serving.specs.Making.{Call, Makes, calls_of}
use Rattle.serving.specs.{Nodes.Fate, Telling.entries_said, Telling.run_frame}
use Rattle.serving.specs.Serving.{Act, framed, grew, served}
use Rattle.serving.specs.declared.request.{Request.Request, DecidedRun.DecidedRun}
use Rattle.serving.specs.declared.request.Request.TheVariants.{Entered, Ticked}
use Rattle.store.specs.declared.{home.Home.Home, keeper.Keeper.Ghosts}
use Rattle.wire.specs.{Ranges.IsFrame, Spelling.spelling}
use Rattle.wire.specs.declared.{frame.Frame.Frame, values.Version.Version}
use Rattle.hall_laws.specs.{Arriving.decided_each, OwnMessages.WereSentTo, Served.all_handed_out}
use Rattle.hall_laws.specs.HallRuns.{Station, Hall, home_at, seen_of, beside, OnlyAt, FrameWasSent}
use Rattle.hall_laws.specs.HallRuns.{HallEvent, TurnAt, TickedAt, HallStep, IsHallRun, hall_after}
use Rattle.hall_laws.specs.{HallRuns.IsTakenIn, HallRuns.IsWorld, Stops.with_desk}
use Rattle.wire.specs.declared.frame.FrameBody.TheVariants as what

-- ---- a request that is served

-- a frame that is begun, each of whose calls is taken as the protocol has it
abbrev pub as_it_goes : Frame → Begun
as_it_goes f = record { frame = f; may = All; differs = None; fates = [] }

-- what a desk does for a request where each call is taken: its calls and pushes, in order
abbrev pub acts_for : {K : Type 0} → Ghosts K → Station K → Request → List Act
acts_for k x r = (served (home_at k x) (seen_of x.node) [] r).done

-- The second desk is the first one after this request: the calls lead from the one node to the
-- other, and what they hand out for other desks was pushed.
pub record IsServedTo {K : Type 0} (k : Ghosts K) (r : Request) (x y : Station K) : Type 0 where
  pub made : Makes (home_at k x).hall (beside k x.wire x) (beside k x.wire y) (acts_for k x r)
  pub node : seen_of y.node ≡ (served (home_at k x) (seen_of x.node) [] r).seen
  pub wire : y.wire ≡ x.wire

-- ---- a run that continues

-- These events follow after the steps of the run. Then desk d is as this one, but for its
-- connections, what its calls have handed out was sent, and no other desk has changed.
pub record GoesOn {K : Type 0} (k : Ghosts K) (n d : ℕ) (h : Hall K) (steps : List (HallStep K))
    (events : List HallEvent) (acts : List Act) (y : Station K) : Type 0 where
  pub more : List (HallStep K)
  pub happened : map (λ (s : HallStep K). s.event) more ≡ events
  pub run : IsHallRun k n h (steps ++ more)
  pub node : ((hall_after h (steps ++ more)).desks d).node ≡ y.node
  pub handed : ((hall_after h (steps ++ more)).desks d).handed ≡ y.handed
  pub wire : ((hall_after h (steps ++ more)).desks d).wire ≡ y.wire
  pub only : OnlyAt d acts (hall_after h steps) (hall_after h (steps ++ more))

-- ---- a Tick

-- the Tick that a desk gives itself, as a client's frame
abbrev pub own_tick : Version → Home → Frame
own_tick version home =
    record { version = version; hall = home.hall; from = 0; to = home.desk; what = what.Tick }

abbrev pub ticked : {K : Type 0} → Ghosts K → ℕ → Station K → HallEvent
ticked k d x = TickedAt d (as_it_goes (own_tick x.wire (home_at k x))) (acts_for k x Ticked)

-- a desk can tick itself at every moment
abbrev pub TicksGoOn : {K : Type 0} → Ghosts K → Type 0
TicksGoOn {K} k =
    (n d : ℕ) (h : Hall K) (steps : List (HallStep K)) (y : Station K)
    → IsHallRun k n h steps → IsDesk n d → IsServedTo k Ticked ((hall_after h steps).desks d) y
    → GoesOn k n d h steps (ticked k d ((hall_after h steps).desks d) ∷ [])
    (acts_for k ((hall_after h steps).desks d) Ticked) y

-- ---- a frame

-- the bytes of a frame come over a connection, and the frame is begun
abbrev pub comes_over : ℕ → ℕ → Frame → List Act → List HallEvent
comes_over d number f acts =
    TurnAt d (record { number = number; turn = Came (spelling f) }) []
    ∷ TurnAt d (record { number = number; turn = Began (as_it_goes f) }) acts ∷ []

-- this frame comes to desk d over one of its connections, and then desk d is as this one
abbrev pub ComesOver : {K : Type 0} → Ghosts K → ℕ → ℕ → Hall K → List (HallStep K) → Frame
    → Station K → Type 0
ComesOver k n d h steps f y =
    let x = (hall_after h steps).desks d in
    let acts = acts_for k x (request (home_at k x) f) in
    (number : ℕ) × GoesOn k n d h steps (comes_over d number f acts) acts y

-- at every moment a frame can come over a connection that it leaves open, if what it brings was
-- sent
abbrev pub FramesGoOn : {K : Type 0} → Ghosts K → Type 0
FramesGoOn {K} k =
    (n d : ℕ) (h : Hall K) (steps : List (HallStep K)) (f : Frame) (y : Station K)
    → IsHallRun k n h steps → IsDesk n d → IsFrame f → let x = (hall_after h steps).desks d in
    FrameWasSent (home_at k x) (hall_after h steps).sent (as_it_goes f)
    → close_of (home_at k x) (seen_of x.node) (as_it_goes f) ≡ None
    → IsServedTo k (request (home_at k x) f) x y → ComesOver k n d h steps f y

-- Each message that was sent to the desk can come too, as the frame in which it is pushed, if the
-- desk is up after it.
abbrev pub MessagesGoOn : {K : Type 0} → Ghosts K → Type 0
MessagesGoOn {K} k =
    (n d : ℕ) (h : Hall K) (steps : List (HallStep K)) (version : Version) (m : Message)
    (y : Station K) → IsHallRun k n h steps → IsDesk n d → let x = (hall_after h steps).desks d in
    let f = framed version (home_at k x).hall m in
    IsFrame f → m.to ≡ d → WereSentTo d (hall_after h steps).sent (Deliver m ∷ [])
    → IsServedTo k (request (home_at k x) f) x y → y.node.is_down ≡ false
    → ComesOver k n d h steps f y

-- and each run of entries
abbrev pub RunsGoOn : {K : Type 0} → Ghosts K → Type 0
RunsGoOn {K} k =
    (n d : ℕ) (h : Hall K) (steps : List (HallStep K)) (version : Version) (entries : DecidedRun)
    (y : Station K) → IsHallRun k n h steps → IsDesk n d → let x = (hall_after h steps).desks d in
    let f = run_frame version (home_at k x).hall entries in
    IsFrame f → entries.to ≡ d → WereSentTo d (hall_after h steps).sent
    (decided_each entries.from entries.to entries.pos (entries_said version entries.entries))
    → IsServedTo k (request (home_at k x) f) x y → y.node.is_down ≡ false
    → ComesOver k n d h steps f y

-- ---- in the world

-- The world in which desk d of n has served this request, in a hall of this number, where the desk
-- had heard these lengths of logs, which the world does not know.
abbrev pub served_in : ℕ → ℕ → List ℕ → World → ℕ → Request → World
served_in n hall told w d r =
    let s =
    served (record { hall = hall; desk = d; desks = n })
    (record { desk = w.desks d; is_down = false; told = told }) [] r in
    with_desk w d s.seen.desk (all_handed_out (calls_of s.done))

-- Where the hall has come to a world and continues so, at a desk that is up, it comes to the world
-- in which that desk has served the request.
abbrev pub WorldsFollow : {K : Type 0} → Ghosts K → Type 0
WorldsFollow {K} k =
    (n d : ℕ) (h : Hall K) (steps : List (HallStep K)) (w : World) (r : Request)
    (events : List HallEvent) (y : Station K)
    → IsHallRun k n h steps → IsDesk n d → IsWorld n (hall_after h steps) w
    → let x = (hall_after h steps).desks d in
    x.node.is_down ≡ false → IsServedTo k r x y
    → (goes : GoesOn k n d h steps events (acts_for k x r) y)
    → IsWorld n (hall_after h (steps ++ goes.more))
    (served_in n (home_at k x).hall x.node.told w d r)

-- ---- a Start

-- one of the calls is of this event
abbrev pub HasCall : DeskEvent → List Call → Type 0
HasCall event [] = ⊥
HasCall event (c ∷ cs) = (c.event ≡ event) ⊎ HasCall event cs

-- A desk continues by itself. It was given a Start where it accepted an entry, and where its log
-- has grown by a request, it is up, and entries wait in its queue.
pub record StartsCome : Type 0 where
  pub grown : (home : Home) (x : Seen) (fates : List Fate) (r : Request)
      → grew (length x.desk.log) (served home x fates r).seen ≡ true
      → HasCall Start (calls_of (served home x fates r).done)
  pub entered : (home : Home) (x : Seen) (fates : List Fate) (e : Entry)
      → IsTakenIn e (calls_of (served home x fates (Entered e)).done)
      → HasCall Start (calls_of (served home x fates (Entered e)).done)
