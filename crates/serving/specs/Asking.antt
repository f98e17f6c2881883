-- What a frame asks of this desk (the project's own).
use Rattle.std.specs.Prelude.{ℕ, ◌+◌, ◌^◌, ◌<◌, ◌≤◌, ◌==◌, ◌&&◌, if◌then◌else◌, Bool, length}
use Rattle.std.specs.Prelude.{Option, None, Some}
use Rattle.acceptor.specs.declared.message.Body.{Body}
use Rattle.wire.specs.{Numbers.IsFromThree, declared.values.Version.Version}
use Rattle.wire.specs.Ranges.{IsDifference, IsEntry, IsId, IsLogLength}
use Rattle.wire.specs.declared.frame.{Frame.Frame, FrameBody.FrameBody}
use Rattle.serving.specs.declared.ends.FrameEnd.{FrameEnd}
use Rattle.serving.specs.declared.request.{FrameEndRule.FrameEndRule, Request.Request}
use Rattle.serving.specs.declared.request.Request.TheVariants.{Heard, Lagging, Learned, Entered}
use Rattle.serving.specs.declared.request.Request.TheVariants.{Asked, Printed, Ticked, Stopped}
use Rattle.serving.specs.declared.request.Request.TheVariants.{Inspected, Copied, Strange, Ignored}
use Rattle.answers.specs.Seen.{Seen}
use Rattle.store.specs.declared.home.Home.{Home}
use Rattle.acceptor.specs.declared.message.Body.TheVariants as body
use Rattle.wire.specs.declared.frame.FrameBody.TheVariants as what
use Rattle.serving.specs.declared.ends.FrameEnd.TheVariants as close
use Rattle.serving.specs.declared.request.FrameEndRule.TheVariants as ends

-- the frame as one message, where it is one from a desk to a desk
abbrev pub body_of : FrameBody → Option Body
body_of (what.Prepare b pos) = Some (body.Prepare b pos)
body_of (what.Promise b pos vote) = Some (body.Promise b pos vote)
body_of (what.Accept b pos e) = Some (body.Accept b pos e)
body_of (what.Accepted b pos) = Some (body.Accepted b pos)
body_of (what.Nack b pos promised) = Some (body.Nack b pos promised)
body_of _ = None

abbrev pub heard : ℕ → ℕ → Option Body → Request
heard from to None = Ignored
heard from to (Some b) = Heard (record { from = from; to = to; body = b })

-- a frame that is for this desk
abbrev pub ours : ℕ → ℕ → FrameBody → Request
ours from to (what.Submit e) = Entered e
ours from to (what.Ask id) = Asked id
ours from to (what.Await id seconds) = Asked id
ours from to (what.Sheet event round position style) = Printed event round position style
ours from to what.Tick = Ticked
ours from to what.Stop = Stopped
ours from to what.Status = Inspected None
ours from to (what.Log position) = Copied position
ours from to (what.Prepare b pos) = heard from to (body_of (what.Prepare b pos))
ours from to (what.Promise b pos vote) = heard from to (body_of (what.Promise b pos vote))
ours from to (what.Accept b pos e) = heard from to (body_of (what.Accept b pos e))
ours from to (what.Accepted b pos) = heard from to (body_of (what.Accepted b pos))
ours from to (what.Nack b pos promised) = heard from to (body_of (what.Nack b pos promised))
ours from to (what.Behind len) =
    Lagging (record { from = from; to = to; body = body.Behind len })
ours from to (what.Decided pos es) =
    Learned (record { from = from; to = to; pos = pos; entries = es })
ours from to _ = Ignored

-- a frame for another desk or another hall: a client is told so
abbrev pub strange : FrameBody → Request
strange (what.Submit e) = Strange
strange (what.Ask id) = Strange
strange (what.Sheet event round position style) = Strange
strange what.Tick = Strange
strange what.Stop = Strange
strange what.Status = Strange
strange (what.Log position) = Strange
strange (what.Await id seconds) = Strange
strange _ = Ignored

abbrev pub is_ours : Home → Frame → Bool
is_ours home f = (f.hall == home.hall) && (f.to == home.desk)

abbrev pub request : Home → Frame → Request
request home f = if is_ours home f then ours f.from f.to f.what else strange f.what

-- what is asked is in the ranges of a frame
abbrev pub AsksInRange : Request → Type 0
AsksInRange (Entered e) = IsEntry e
AsksInRange (Asked id) = IsId id
AsksInRange (Printed event round position style) = position < 2 ^ 32
AsksInRange (Learned run) = run.pos + length run.entries ≤ 65536
AsksInRange (Inspected differs) = IsDifference differs
AsksInRange (Copied position) = IsLogLength position
AsksInRange _ = Unit {0}

-- what can be asked in a version: how the desk is, and entries of its log, from version 3 on
abbrev pub IsAskedIn : Version → Request → Type 0
IsAskedIn version (Inspected differs) = IsFromThree version
IsAskedIn version (Copied position) = IsFromThree version
IsAskedIn version _ = Unit {0}

-- how a request ends the connection of itself: where the desk is down after it, or at a Stop
abbrev pub ending : Request → FrameEndRule
ending (Heard m) = ends.IfDown
ending (Lagging m) = ends.IfDown
ending (Learned run) = ends.IfDown
ending (Entered e) = ends.IfDown
ending Ticked = ends.IfDown
ending Stopped = ends.AtStop
ending _ = ends.Never

abbrev pub close_by : FrameEndRule → Bool → Option FrameEnd
close_by ends.Never is_down = None
close_by ends.AtStop is_down = Some close.Stopped
close_by ends.IfDown is_down = if is_down then Some close.Down else None

abbrev pub closes : Seen → Request → Option FrameEnd
closes x r = close_by (ending r) x.is_down
