use Rattle.std.proofs.Common.{◌≡◌, map, take, flat_map}
use Rattle.serde_json.specs.View.{view}
use Rattle.competition_file.specs.Groups.{groups_down}
use Rattle.competition_file.proofs.groups.round_groups.Given as goal

abbrev pub invariant-loop-venue : goal.invariant-loop-venue
invariant-loop-venue l =
    l.groups.items ≡ flat_map (groups_down l.front.items 3) (map view (take l.venue-index l.venues))
