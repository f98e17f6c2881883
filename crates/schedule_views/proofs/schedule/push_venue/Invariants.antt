use Rattle.std.proofs.Common.{◌≡◌, ◌++◌, map, take, flat_map}
use Rattle.serde_json.specs.View.{view}
use Rattle.schedule_views.specs.Schedule.{room_table}
use Rattle.schedule_views.proofs.schedule.push_venue.Given as goal

abbrev pub invariant-loop-room : goal.invariant-loop-room
invariant-loop-room l =
    l.out.items
    ≡ l.initial.out.items
    ++ flat_map (room_table l.meet.accepted (view l.venue)) (map view (take l.room-index l.rooms))
