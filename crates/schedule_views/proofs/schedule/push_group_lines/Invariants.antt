use Rattle.std.proofs.Common.{◌≡◌, ◌++◌, map, take, flat_map}
use Rattle.serde_json.specs.View.{view}
use Rattle.schedule_views.specs.Schedule.{group_at}
use Rattle.schedule_views.proofs.schedule.push_group_lines.Given as goal

abbrev pub invariant-loop-place : goal.invariant-loop-place
invariant-loop-place l =
    l.out.items
    ≡ l.initial.out.items
    ++ flat_map (group_at l.meet.accepted (view l.round) (map view l.children))
    (take l.place-index l.places)
