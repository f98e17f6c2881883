-- What a connection may ask of a desk, and what becomes of what it may not (the project's own).
use Rattle.std.specs.Prelude.{Bool, true, false, ◌||◌, if◌then◌else◌}
use Rattle.serving.specs.declared.permission.Permission.{Permission}
use Rattle.serving.specs.declared.request.Request.{Request, TheVariants.Withheld}
use Rattle.serving.specs.declared.request.Request.TheVariants.{Heard, Lagging, Learned, Entered}
use Rattle.serving.specs.declared.request.Request.TheVariants.{Asked, Printed, Ticked, Inspected}
use Rattle.serving.specs.declared.request.Request.TheVariants.{Copied, Strange, Ignored, Denied}
use Rattle.serving.specs.declared.permission.Permission.TheVariants as permission

-- nothing of the desk is changed: it tells what its log says or how it is, or is asked nothing
abbrev pub reads : Request → Bool
reads (Asked id) = true
reads (Printed event round position style) = true
reads (Inspected differs) = true
reads (Copied position) = true
reads Strange = true
reads Ignored = true
reads Denied = true
reads Withheld = true
reads _ = false

-- a client enters a command, or gives a Tick
abbrev pub enters : Request → Bool
enters (Entered e) = true
enters Ticked = true
enters _ = false

abbrev pub admits : Permission → Request → Bool
admits permission.All r = true
admits permission.Entries r = reads r || enters r
admits permission.Sheets r = reads r

-- what a desk says is dropped as a foreign frame is, and a client is told
abbrev pub turned_away : Request → Request
turned_away (Heard m) = Ignored
turned_away (Lagging m) = Ignored
turned_away (Learned run) = Ignored
turned_away _ = Denied

abbrev pub permitted : Permission → Request → Request
permitted may r = if admits may r then r else turned_away r
