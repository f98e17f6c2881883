use Rattle.std.proofs.Common.{◌≡◌, ◌++◌, map, take, flat_map}
use Rattle.serde_json.specs.View.{view}
use Rattle.schedule_views.specs.Spots.{seen, spots_in_room}
use Rattle.schedule_views.proofs.spots.push_venue.Given as goal

abbrev pub invariant-loop-room : goal.invariant-loop-room
invariant-loop-room l =
    map seen l.spots.items
    ≡ map seen l.initial.spots.items
    ++ flat_map (spots_in_room (view l.venue)) (map view (take l.room-index l.rooms))
