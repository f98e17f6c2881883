use Rattle.std.proofs.Common.{◌∙◌, ◌++◌, ap, arith, map, flat_map}
use Rattle.std.proofs.lemmas.List.{take_all}
use Rattle.serde_json.specs.View.{view}
use Rattle.competition_file.specs.Groups.{seats_in}
use Rattle.competition_file.proofs.groups.push_seats.Goals as goal

pub returns : goal.returns
returns c =
    c.loop-assignment.invariant
    ∙ ap (λ vs. c.args.seats.now.items ++ flat_map seats_in (map view vs))
    (take_all c.loop-assignment.assignment-index c.args.assignments.now (omega arith))
