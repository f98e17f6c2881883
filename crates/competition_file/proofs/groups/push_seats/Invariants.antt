use Rattle.std.proofs.Common.{◌≡◌, ◌++◌, map, take, flat_map}
use Rattle.serde_json.specs.View.{view}
use Rattle.competition_file.specs.Groups.{seats_in}
use Rattle.competition_file.proofs.groups.push_seats.Given as goal

abbrev pub invariant-loop-assignment : goal.invariant-loop-assignment
invariant-loop-assignment l =
    l.seats.items
    ≡ l.initial.seats.items ++ flat_map seats_in (map view (take l.assignment-index l.assignments))
