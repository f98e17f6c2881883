use Rattle.std.proofs.Common.{◌≡◌, ◌++◌, map, take, flat_map}
use Rattle.serde_json.specs.View.{view}
use Rattle.schedule_views.specs.Spots.{seen, spots_in_round}
use Rattle.schedule_views.proofs.spots.push_room.Given as goal

abbrev pub invariant-loop-round : goal.invariant-loop-round
invariant-loop-round l =
    map seen l.spots.items
    ≡ map seen l.initial.spots.items
    ++ flat_map (spots_in_round (view l.venue) (view l.room))
    (map view (take l.round-index l.rounds))
