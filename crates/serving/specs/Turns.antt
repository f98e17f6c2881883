-- A connection that is served by turns: what it has between two turns, and what each turn does (the
-- project's own).
use Rattle.std.specs.Prelude.{◌≡◌, ◌⊎◌, ◌≤◌, ◌<◌, ℕ, ◌+◌, Bool, true, false, List, [], ◌∷◌, ◌++◌}
use Rattle.std.specs.Prelude.{drop, Option, None, Some}
use Rattle.answers.specs.declared.desk.Desk.{Ghosts as DeskOf}
use Rattle.wire.specs.declared.{fault.WireFault.WireFault, frame.Frame.Frame}
use Rattle.wire.specs.declared.{standing.Difference.Difference, values.Version.Version}
use Rattle.wire.specs.Stream.{Breaks, front, IsBegun, IsKept, IsOfStream, Feeds, Reader, holding}
use Rattle.store.specs.declared.home.Home.{Home}
use Rattle.serving.specs.declared.{ends.ConnectionEnd.ConnectionEnd, peers.Peers.Ghosts as PeersOf}
use Rattle.serving.specs.{declared.permission.Permission.Permission, Sessions.outside}
use Rattle.serving.specs.Connection.{Begun, Sides, sides, ServesOne, FailsIn}
use Rattle.serving.specs.Making.{Way, speaking}
use Rattle.serving.specs.declared.ends.FrameEnd.TheVariants as close
use Rattle.serving.specs.declared.ends.ConnectionEnd.TheVariants as end
use Rattle.serving.specs.declared.ends.FrameFault.TheVariants as fault

-- what a connection has between two turns
pub record Talk : Type 0 where
  -- the desk that serves it, and the version in which frames are pushed to desks
  pub home : Home
  pub wire : Version
  -- the bytes of a frame that is not whole yet, or the fault that is there
  pub stream : Reader
  -- the frames that are whole, in order, of which none was begun
  pub waiting : List Frame
  -- how many frames were begun
  pub frames : ℕ
  -- what of the answers was not taken yet
  pub pending : List ℕ
  -- the end, where it came
  pub end : Option ConnectionEnd

-- before the first turn
abbrev pub new_talk : Home → Version → Talk
new_talk home wire = record {
  home = home;
  wire = wire;
  stream = holding [];
  waiting = [];
  frames = 0;
  pending = [];
  end = None;
}

-- neither did it end, nor is anything of an answer still to be taken
pub record IsFree (c : Talk) : Type 0 where
  pub unended : c.end ≡ None
  pub taken : c.pending ≡ []

-- the next piece of the stream may come: all that came before is served
pub record WantsRead (c : Talk) : Type 0 where
  pub free : IsFree c
  pub served : c.waiting ≡ []
  pub unbroken : c.stream.fault ≡ None

-- ---- a piece comes

-- only what was read of the stream, and the end, are other than before
pub record OnlyReads (old new : Talk) : Type 0 where
  pub home : new.home ≡ old.home
  pub wire : new.wire ≡ old.wire
  pub frames : new.frames ≡ old.frames
  pub pending : new.pending ≡ old.pending

-- the frames that are whole with the piece wait; or no frame is, and the fault at the front of the
-- stream ends the connection; or memory is refused for a frame
abbrev pub ReadsTo : Option ConnectionEnd → List ℕ → Talk → Talk → Type 0
ReadsTo None piece old new = Feeds (old.stream.held ++ piece) new.waiting new.stream
ReadsTo (Some (end.Fault e)) piece old new =
    (front (old.stream.held ++ piece) ≡ Breaks e) × IsOfStream e × (new.waiting ≡ [])
ReadsTo (Some end.NoMemory) piece old new =
    IsBegun (front (old.stream.held ++ piece)) × (new.waiting ≡ [])
ReadsTo _ piece old new = ⊥

abbrev pub Receives : List ℕ → Talk → Talk → Type 0
Receives piece old new = OnlyReads old new × ReadsTo new.end piece old new

-- ---- a frame is begun

-- a node, the desks of its hall, and one of its connections
pub record Moment (V U : Type 0) : Type 0 where
  pub node : V
  pub peers : U
  pub talk : Talk

abbrev pub moment : {V U : Type 0} → V → U → Talk → Moment V U
moment node peers talk = record { node = node; peers = peers; talk = talk }

-- what serving changes, where answers wait in the connection
abbrev pub sides_at : {V U : Type 0} → (d : DeskOf V) → PeersOf U → (version : Version)
    → Moment V U → Sides (speaking d.handles d.settles version)
sides_at d p version m =
    sides (d.seen m.node) (Some m.talk.pending) (outside d p version m.node m.peers)

-- The frame is the next one, and it is begun with nothing of an answer still to be taken.
pub record BeginsNext (old new : Talk) (frame : Frame) : Type 0 where
  pub free : IsFree old
  pub next : old.waiting ≡ frame ∷ new.waiting
  pub counted : new.frames ≡ old.frames + 1
  pub few : new.frames ≤ 64
  pub home : new.home ≡ old.home
  pub wire : new.wire ≡ old.wire
  pub stream : new.stream ≡ old.stream

-- how the frame leaves the connection, after which this many were begun: open, or ended by the
-- frame, or as the 64th, or for want of memory
abbrev pub LeavesAt : {V : Type 0} → {way : Way V} → Option ConnectionEnd → Home → Sides way
    → Sides way → Begun → ℕ → Type 0
LeavesAt None home a b one count = ServesOne home a b one None × (count < 64)
LeavesAt (Some end.Stopped) home a b one count = ServesOne home a b one (Some close.Stopped)
LeavesAt (Some end.Down) home a b one count = ServesOne home a b one (Some close.Down)
LeavesAt (Some end.Frames) home a b one count = ServesOne home a b one None × (count ≡ 64)
LeavesAt (Some end.NoMemory) home a b one count = FailsIn fault.NoMemory home a b one
LeavesAt _ home a b one count = ⊥

-- the end that a fault of the stream is, where one is kept
abbrev pub broken_by : Option WireFault → Option ConnectionEnd
broken_by None = None
broken_by (Some e) = Some (end.Fault e)

-- the same, with this end
abbrev pub ended : Talk → Option ConnectionEnd → Talk
ended c e = record {
  home = c.home;
  wire = c.wire;
  stream = c.stream;
  waiting = c.waiting;
  frames = c.frames;
  pending = c.pending;
  end = e;
}

-- all that came is served: now a fault that is after it ends the connection
pub record RunsOut (old new : Talk) : Type 0 where
  pub free : IsFree old
  pub served : old.waiting ≡ []
  pub kept : IsKept old.stream.fault
  pub ends : new ≡ ended old (broken_by old.stream.fault)

-- no frame is begun: the connection ended before, something of an answer is still to be taken, or
-- all that came is served
abbrev pub Rests : Talk → Talk → Type 0
Rests old new = ((IsFree old → ⊥) × (new ≡ old)) ⊎ RunsOut old new

-- a turn of a connection that may ask so much, where another desk differs so or none does, in which
-- a frame is begun or none is
abbrev pub Advances : {V U : Type 0} → DeskOf V → PeersOf U → Permission → Option Difference → Bool
    → Moment V U → Moment V U → Type 0
Advances d p may differs true a b =
    (one : Begun) × BeginsNext a.talk b.talk one.frame
    × LeavesAt b.talk.end a.talk.home (sides_at d p a.talk.wire a) (sides_at d p a.talk.wire b) one
    b.talk.frames × (one.may ≡ may) × (one.differs ≡ differs)
Advances d p may differs false a b = (b.node ≡ a.node) × (b.peers ≡ a.peers) × Rests a.talk b.talk

-- ---- answers are taken

-- this many bytes of what was pending were taken
abbrev pub after_sent : Talk → ℕ → Talk
after_sent c count = record {
  home = c.home;
  wire = c.wire;
  stream = c.stream;
  waiting = c.waiting;
  frames = c.frames;
  pending = drop count c.pending;
  end = c.end;
}
