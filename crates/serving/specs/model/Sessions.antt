-- What the calls of a session leave.
use Rattle.std.specs.Prelude.{ℕ, List, [], ◌++◌, map, Option, Some}
use Rattle.std.specs.declared.io.Write.{Ghosts as WriteOf}
use Rattle.acceptor.specs.declared.message.Message.{Message}
use Rattle.answers.specs.declared.desk.Desk.{Ghosts as DeskOf}
use Rattle.learner.specs.declared.event.DeskEvent.{DeskEvent}
use Rattle.learner.specs.declared.event.DeskEvent.TheVariants.{Deliver, Start}
use Rattle.store.specs.declared.home.Home.{Home}
use Rattle.wire.specs.declared.frame.{Frame.Frame, FrameBody.FrameBody}
use Rattle.wire.specs.declared.{standing.Difference.Difference, values.Version.Version}
use Rattle.serving.specs.{Adding.Push, Adding.Hands, Making.outside_of, Making.speaking}
use Rattle.serving.specs.declared.{calls.NodeAnswer.NodeAnswer, permission.Permission.Permission}
use Rattle.serving.specs.declared.ends.{FrameEnd.FrameEnd, ConnectionEnd.ConnectionEnd}
use Rattle.serving.specs.declared.{peers.Peers.Ghosts as PeersOf, request.DecidedRun.DecidedRun}
use Rattle.serving.specs.declared.request.Request.{Request}
use Rattle.serving.specs.{declared.session.Session.Session, Nodes.Fate, Sessions.Line, Turns.Talk}
use Rattle.serving.specs.Connection.{Begun, Sides, sides, ServesOne, FailsIn}
use Rattle.serving.specs.Serving.{Act, Service, answer_out, call, learn, push_all, pushed}
use Rattle.serving.specs.{Sessions.outside, Sessions.sides_of}
use Rattle.serving.specs.model.Calling.{Calls, IsCall, LosesMessages}
use Rattle.serving.specs.model.{Pieces.IsBatch, Pieces.IsPiece, Pushing.PushesPart, Turning.EndsBy}
use Rattle.serving.specs.model.Reaching.{Does, DoesCall, DoesPart, DoesTake, at}
use Rattle.serving.specs.model.Requests.{AnswersSome, FailsToAnswer}
use Rattle.serving.specs.declared.ends.FrameFault.TheVariants as fault

-- ---- a call of the node

-- it came to a fate, and these messages wait
abbrev pub IsCalled : {V : Type 0} → DeskOf V → DeskEvent → V → V → List Message → List Message
    → NodeAnswer → Type 0
IsCalled d event x y ms more answer =
    (fate : Fate) × Calls (d.home_of x) event fate (d.seen x) (d.seen y) ms more answer
    × IsCall d.handles (d.home_of x) event fate (d.seen x) x y

-- it came to a fate, and its messages were lost
abbrev pub LosesCall : {V : Type 0} → DeskOf V → DeskEvent → V → V → Type 0
LosesCall d event x y =
    (fate : Fate) × LosesMessages (d.home_of x) event fate (d.seen x) (d.seen y)
    × IsCall d.handles (d.home_of x) event fate (d.seen x) x y

-- ---- pushes

-- these messages were pushed
abbrev pub Pushes : {U : Type 0} → PeersOf U → Session → List Message → U → U → Type 0
Pushes p s ms a b = Hands (p.handed a) (p.handed b) (map (pushed s.wire s.home.hall) ms)

-- a front part of them was pushed
abbrev pub PushesSome : {U : Type 0} → PeersOf U → Session → List Message → U → U → Type 0
PushesSome p s ms a b = PushesPart s.wire s.home.hall ms (p.handed a) (p.handed b)

-- ---- a desk within a frame

-- a node and the desks of its hall
pub record Desks (V U : Type 0) : Type 0 where
  pub node : V
  pub peers : U

abbrev pub desks : {V U : Type 0} → V → U → Desks V U
desks node peers = record { node = node; peers = peers }

-- all of it was done, and no message waits before it and after it
abbrev pub Comes : {V U : Type 0} → DeskOf V → PeersOf U → Session → (Service → Service)
    → Desks V U → Desks V U → Type 0
Comes d p s all a b =
    Does s.home all (at (d.seen a.node) []) (at (d.seen b.node) [])
    (outside d p s.wire a.node a.peers) (outside d p s.wire b.node b.peers)

-- a front part of it was done
abbrev pub ComesPart : {V U : Type 0} → DeskOf V → PeersOf U → Session → (Service → Service)
    → Desks V U → Desks V U → Type 0
ComesPart d p s all a b =
    DoesPart s.home all (at (d.seen a.node) []) (d.seen b.node)
    (outside d p s.wire a.node a.peers) (outside d p s.wire b.node b.peers)

-- an event, with its messages
abbrev pub Meets : {V U : Type 0} → DeskOf V → PeersOf U → Session → DeskEvent → Desks V U
    → Desks V U → NodeAnswer → Type 0
Meets d p s event a b answer =
    (acts : List Act) × (past : List Fate)
    × DoesCall s.home event answer (d.seen a.node) (d.seen b.node) acts past
    (outside d p s.wire a.node a.peers) (outside d p s.wire b.node b.peers)

abbrev pub MeetsPart : {V U : Type 0} → DeskOf V → PeersOf U → Session → DeskEvent → Desks V U
    → Desks V U → Type 0
MeetsPart d p s event a b = ComesPart d p s (λ t. push_all (call s.home event t)) a b

-- an event, with its messages, and Start
abbrev pub TakesIn : {V U : Type 0} → DeskOf V → PeersOf U → Session → DeskEvent → Desks V U
    → Desks V U → NodeAnswer → Type 0
TakesIn d p s event a b answer =
    (acts : List Act) × (past : List Fate)
    × DoesTake s.home event answer (d.seen a.node) (d.seen b.node) acts past
    (outside d p s.wire a.node a.peers) (outside d p s.wire b.node b.peers)

-- Start after an entry, with its messages and those that wait
abbrev pub StartsNext : {V U : Type 0} → DeskOf V → PeersOf U → Session → Desks V U
    → Desks V U → List Message → List Message → Type 0
StartsNext d p s a b ms rest =
    Does s.home (λ t. push_all (call s.home Start t)) (at (d.seen a.node) ms)
    (at (d.seen b.node) rest)
    (outside d p s.wire a.node a.peers) (outside d p s.wire b.node b.peers)

abbrev pub StartsNextPart : {V U : Type 0} → DeskOf V → PeersOf U → Session → Desks V U
    → Desks V U → List Message → Type 0
StartsNextPart d p s a b ms =
    DoesPart s.home (λ t. push_all (call s.home Start t)) (at (d.seen a.node) ms) (d.seen b.node)
    (outside d p s.wire a.node a.peers) (outside d p s.wire b.node b.peers)

-- ---- a run of entries

-- each entry was delivered, whatever the version and the desks
abbrev pub Delivers : {V : Type 0} → DeskOf V → Home → DecidedRun → V → List Message → V
    → List Message → Type 0
Delivers d home run x ms y more =
    (wire : Version) (handed : Option (List Push))
    → Does home (learn home run.from run.to run.pos run.entries) (at (d.seen x) ms)
    (at (d.seen y) more) (outside_of (speaking d.handles d.settles wire) x handed)
    (outside_of (speaking d.handles d.settles wire) y handed)

abbrev pub DeliversPart : {V : Type 0} → DeskOf V → Home → DecidedRun → V → List Message → V
    → Type 0
DeliversPart d home run x ms y =
    (wire : Version) (handed : Option (List Push))
    → DoesPart home (learn home run.from run.to run.pos run.entries) (at (d.seen x) ms)
    (d.seen y) (outside_of (speaking d.handles d.settles wire) x handed)
    (outside_of (speaking d.handles d.settles wire) y handed)

-- with the messages of the last one
abbrev pub LearnsAll : {V U : Type 0} → DeskOf V → PeersOf U → Session → DecidedRun → Desks V U
    → Desks V U → Type 0
LearnsAll d p s run a b =
    Comes d p s (λ t. push_all (learn s.home run.from run.to run.pos run.entries t)) a b

abbrev pub LearnsPart : {V U : Type 0} → DeskOf V → PeersOf U → Session → DecidedRun → Desks V U
    → Desks V U → Type 0
LearnsPart d p s run a b =
    ComesPart d p s (λ t. push_all (learn s.home run.from run.to run.pos run.entries t)) a b

-- what a desk that lacks entries is sent
abbrev pub TellsAll : {V U : Type 0} → DeskOf V → PeersOf U → Session → Message → Desks V U
    → Desks V U → Type 0
TellsAll d p s message a b =
    Comes d p s (λ t. answer_out s.home (call s.home (Deliver message) t)) a b

abbrev pub TellsPart : {V U : Type 0} → DeskOf V → PeersOf U → Session → Message → Desks V U
    → Desks V U → Type 0
TellsPart d p s message a b =
    ComesPart d p s (λ t. answer_out s.home (call s.home (Deliver message) t)) a b

-- ---- a request

-- it was served, with this answer
abbrev pub Serves : {V U : Type 0} → DeskOf V → PeersOf U → Session → Request → Desks V U
    → Desks V U → Option FrameBody → Type 0
Serves d p s request a b answer =
    AnswersSome s.home (d.seen a.node) (d.seen b.node) request answer
    (outside d p s.wire a.node a.peers) (outside d p s.wire b.node b.peers)

-- a front part of its calls and pushes was made
abbrev pub ServesPart : {V U : Type 0} → DeskOf V → PeersOf U → Session → Request → Desks V U
    → Desks V U → Type 0
ServesPart d p s request a b =
    FailsToAnswer s.home (d.seen a.node) (d.seen b.node) request
    (outside d p s.wire a.node a.peers) (outside d p s.wire b.node b.peers)

-- ---- frames

-- what serving changes, where this was written of answers
abbrev pub sides_with : {V U : Type 0} → (d : DeskOf V) → PeersOf U → (version : Version)
    → Desks V U → List ℕ → Sides (speaking d.handles d.settles version)
sides_with d p version a written =
    sides (d.seen a.node) (Some written) (outside d p version a.node a.peers)

-- a frame was served: the bytes of its answer, and how it ends the connection
abbrev pub ServesFrame : {V U : Type 0} → DeskOf V → PeersOf U → Session → Permission
    → Option Difference → Frame → Desks V U → Desks V U → List ℕ → Option FrameEnd → Type 0
ServesFrame d p s may differs frame a b answer close =
    (fates : List Fate)
    × ServesOne s.home (sides_with d p s.wire a []) (sides_with d p s.wire b answer)
    (record { frame = frame; may = may; differs = differs; fates = fates }) close

-- a frame was not served whole, for want of memory
abbrev pub FailsFrame : {V U : Type 0} → DeskOf V → PeersOf U → Session → Permission
    → Option Difference → Frame → Desks V U → Desks V U → Type 0
FailsFrame d p s may differs frame a b =
    (fates : List Fate)
    × FailsIn fault.NoMemory s.home (sides_with d p s.wire a []) (sides_with d p s.wire b [])
    (record { frame = frame; may = may; differs = differs; fates = fates })

-- the frames that waited in a connection
abbrev pub ServesWaiting : {V U X : Type 0} → DeskOf V → PeersOf U → WriteOf X → Permission
    → Option ConnectionEnd → Talk → Talk → Line V U X → Line V U X → Type 0
ServesWaiting d p w may result old new a b =
    (how : Option ConnectionEnd) × (begun : List Begun) × (left : List Frame)
    × IsBatch may how old.home (sides_of d p w old.wire a) (sides_of d p w old.wire b) old.waiting
    begun left old.frames new.frames × EndsBy how result old new

-- a piece of the stream, after what a connection held of the stream before
abbrev pub ServesPiece : {V U X : Type 0} → DeskOf V → PeersOf U → WriteOf X → Permission
    → Option ConnectionEnd → List ℕ → Talk → Talk → Line V U X → Line V U X → Type 0
ServesPiece d p w may result piece old new a b =
    (begun : List Begun) × (rest : List ℕ)
    × IsPiece may result old.home (sides_of d p w old.wire a) (sides_of d p w old.wire b)
    (old.stream.held ++ piece) begun rest old.frames new.frames new.stream
