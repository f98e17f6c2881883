use Rattle.std.proofs.Common.{◌∙◌, List, ap, arith, map, flat_map}
use Rattle.std.proofs.lemmas.List.{take_all}
use Rattle.serde_json.specs.View.{view}
use Rattle.serde_json.specs.declared.value.Value.{Value}
use Rattle.schedule_views.specs.Spots.{spots, spots_in_venue}
use Rattle.schedule_views.proofs.spots.spots.Goals as goal

pub returns : goal.returns
unfolding spots
returns c =
    c.loop-venue.invariant
    ∙ ap (λ (vs : List Value). flat_map spots_in_venue (map view vs))
    (take_all c.loop-venue.venue-index c.venues-venues.result.now (omega arith))
    ∙ ap (flat_map spots_in_venue) c.venues-venues.ensures
