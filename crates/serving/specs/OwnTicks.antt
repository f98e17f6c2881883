-- A Tick that a desk gives itself: what comes of it is what comes of a client's, but that its
-- answer is nobody's (the project's own).
use Rattle.std.specs.Prelude.{List, Option, None}
use Rattle.answers.specs.{Seen.Seen, declared.desk.Desk.Ghosts as DeskOf}
use Rattle.store.specs.declared.home.Home.{Home}
use Rattle.wire.specs.declared.{frame.Frame.Frame, values.Version.Version}
use Rattle.serving.specs.declared.{ends.FrameEnd.FrameEnd, peers.Peers.Ghosts as PeersOf}
use Rattle.serving.specs.Connection.{Begun, FailsIn, ServesOne, Sides, sides}
use Rattle.serving.specs.{Making.Outside, Making.Way, Making.speaking, Nodes.Fate, Sessions.outside}
use Rattle.wire.specs.declared.frame.FrameBody.TheVariants as what
use Rattle.serving.specs.declared.ends.FrameFault.TheVariants as fault
use Rattle.serving.specs.declared.permission.Permission.TheVariants as permission

-- the frame by which a client gives a desk a Tick
abbrev pub tick_frame : Version → Home → Frame
tick_frame version home =
    record { version = version; hall = home.hall; from = 0; to = home.desk; what = what.Tick }

-- the same, begun as one that is allowed, with these fates of its calls
abbrev pub tick_begun : Version → Home → List Fate → Begun
tick_begun version home fates =
    record {
      frame = tick_frame version home;
      may = permission.All;
      differs = None;
      fates = fates;
    }

-- what serving changes, where no answer is written
abbrev pub unanswered : {V : Type 0} → {way : Way V} → Seen → Outside way → Sides way
unanswered x outside = sides x None outside

-- all was done that is done for the frame
abbrev pub Ticks : {V : Type 0} → {way : Way V} → Home → Sides way → Sides way → Type 0
Ticks {V} {way} home a b =
    (fates : List Fate) × (close : Option FrameEnd)
    × ServesOne home a b (tick_begun way.wire home fates) close

-- a front part of it was done, for want of memory
abbrev pub TicksInPart : {V : Type 0} → {way : Way V} → Home → Sides way → Sides way → Type 0
TicksInPart {V} {way} home a b =
    (fates : List Fate) × FailsIn fault.NoMemory home a b (tick_begun way.wire home fates)

-- what a Tick changes of a node and the desks, where frames are pushed in this version
abbrev pub sides_alone : {V U : Type 0} → (d : DeskOf V) → PeersOf U → (version : Version) → V → U
    → Sides (speaking d.handles d.settles version)
sides_alone d p version node peers =
    unanswered (d.seen node) (outside d p version node peers)
