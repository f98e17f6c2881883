-- How a connection goes on from turn to turn, where its answers are written at once.
use Rattle.std.specs.Prelude.{◌≡◌, ◌<◌, ℕ, ◌==◌, if◌then◌else◌, List, Option, None, Some}
use Rattle.wire.specs.{declared.fault.WireFault.WireFault, Stream.IsKept}
use Rattle.store.specs.declared.home.Home.{Home}
use Rattle.serving.specs.declared.ends.{FrameEnd.FrameEnd, ConnectionEnd.ConnectionEnd}
use Rattle.serving.specs.{Connection.Begun, Connection.Sides, Making.Way, model.Pieces.EndsInFrames}
use Rattle.serving.specs.{Connection.Serves, Turns.Talk, Turns.WantsRead, Turns.broken_by}
use Rattle.serving.specs.declared.ends.FrameEnd.TheVariants as close
use Rattle.serving.specs.declared.ends.ConnectionEnd.TheVariants as end

-- how a frame that was served, and of which this is the number, leaves the connection
abbrev pub end_after : Option FrameEnd → ℕ → Option ConnectionEnd
end_after (Some close.Stopped) number = Some end.Stopped
end_after (Some close.Down) number = Some end.Down
end_after None number = if number == 64 then Some end.Frames else None

-- frames were served, and left the connection open or ended it
abbrev pub Leaves : {V : Type 0} → {way : Way V} → Option ConnectionEnd → Home → Sides way
    → Sides way → List Begun → ℕ → Type 0
Leaves None home a b begun count = Serves home a b begun × (count < 64)
Leaves (Some e) home a b begun count = EndsInFrames e home a b begun count

-- the end that the frames came to, or else that of a fault after them
abbrev pub or_broken : Option ConnectionEnd → Option WireFault → Option ConnectionEnd
or_broken None fault = broken_by fault
or_broken (Some e) fault = Some e

-- it is the same connection, and where no end is given the next piece may come
pub record GoesOn (result : Option ConnectionEnd) (old new : Talk) : Type 0 where
  pub home : new.home ≡ old.home
  pub wire : new.wire ≡ old.wire
  pub wants : result ≡ None → WantsRead new

-- the frames that waited came to this end, and the connection to that one
pub record EndsBy (how result : Option ConnectionEnd) (old new : Talk) : Type 0 where
  pub is : result ≡ or_broken how old.stream.fault
  pub kept : how ≡ None → IsKept old.stream.fault
  pub stream : new.stream ≡ old.stream
  pub goes_on : GoesOn result old new
