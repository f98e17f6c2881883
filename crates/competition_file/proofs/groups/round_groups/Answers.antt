use Rattle.std.proofs.Common.{◌∙◌, ap, arith, map, flat_map}
use Rattle.std.proofs.lemmas.List.{take_all}
use Rattle.serde_json.specs.View.{view}
use Rattle.competition_file.specs.Files.{data_of, venues}
use Rattle.competition_file.specs.Groups.{groups_down, round_groups}
use Rattle.competition_file.proofs.groups.round_groups.Goals as goal

pub returns : goal.returns
unfolding round_groups
returns c =
    let f = groups_down c.in_ok-front.front.items 3 in
    c.loop-venue.invariant
    ∙ ap (λ vs. flat_map f (map view vs))
    (take_all c.loop-venue.venue-index c.venues-venues.result.now (omega arith))
    ∙ ap (flat_map f) c.venues-venues.ensures
    ∙ ap (λ front. flat_map (groups_down front 3) (venues (data_of c.args.file.now)))
    c.in_ok-front.ensures
