use Rattle.std.proofs.Common.{◌≡◌, ◌++◌, ◌-◌, map, take, flat_map}
use Rattle.serde_json.specs.View.{view}
use Rattle.schedule_views.specs.Spots.{seen, spots_down}
use Rattle.schedule_views.proofs.spots.+push_down.Given as goal

abbrev pub invariant-loop-child : goal.invariant-loop-child
invariant-loop-child l =
    map seen l.spots.items
    ≡ map seen l.initial.spots.items
    ++ flat_map (spots_down (view l.venue) (view l.room) (view l.round) (l.level - 1))
    (map view (take l.child-index l.children))

abbrev pub decreases-push_down : goal.decreases-push_down
decreases-push_down l = l.level
