use Rattle.std.proofs.Common.{◌≡◌, map, take, flat_map}
use Rattle.serde_json.specs.View.{view}
use Rattle.schedule_views.specs.Schedule.{activity_at}
use Rattle.schedule_views.proofs.schedule.lines.Given as goal

abbrev pub invariant-loop-place : goal.invariant-loop-place
invariant-loop-place l =
    l.text.items
    ≡ flat_map (activity_at l.meet.accepted (map view l.all)) (take l.place-index l.places)
