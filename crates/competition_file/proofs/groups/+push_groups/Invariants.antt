use Rattle.std.proofs.Common.{◌≡◌, ◌++◌, ◌-◌, map, take, flat_map}
use Rattle.serde_json.specs.View.{view}
use Rattle.competition_file.specs.Groups.{groups_down}
use Rattle.competition_file.proofs.groups.+push_groups.Given as goal

abbrev pub invariant-loop-item : goal.invariant-loop-item
invariant-loop-item l =
    l.groups.items
    ≡ l.initial.groups.items
    ++ flat_map (groups_down l.front (l.level - 1)) (map view (take l.item-index l.items))

abbrev pub decreases-push_groups : goal.decreases-push_groups
decreases-push_groups l = l.level
