use Rattle.std.proofs.Common.{◌≡◌, map, take, flat_map}
use Rattle.serde_json.specs.View.{view}
use Rattle.schedule_views.specs.{Spots.seen, Today.task_at}
use Rattle.schedule_views.proofs.today.lines.Given as goal

abbrev pub invariant-loop-place : goal.invariant-loop-place
invariant-loop-place l =
    l.text.items
    ≡ flat_map (task_at (map seen l.spots) (map view l.assignments))
    (take l.place-index l.places)
