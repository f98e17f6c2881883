use Rattle.std.proofs.Common.{◌≡◌, map, take, flat_map}
use Rattle.serde_json.specs.View.{view}
use Rattle.schedule_views.specs.Spots.{seen, spots_in_venue}
use Rattle.schedule_views.proofs.spots.spots.Given as goal

abbrev pub invariant-loop-venue : goal.invariant-loop-venue
invariant-loop-venue l =
    map seen l.all.items ≡ flat_map spots_in_venue (map view (take l.venue-index l.venues))
