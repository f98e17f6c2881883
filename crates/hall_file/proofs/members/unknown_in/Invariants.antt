use Rattle.std.proofs.Common.{◌≡◌}
use Rattle.toml.specs.View.{members_view}
use Rattle.hall_file.specs.Members.{unknown_name}
use Rattle.hall_file.proofs.members.unknown_in.Given as goal

abbrev pub invariant-members : goal.invariant-members
invariant-members l =
    (goal.iterator-members).can_next l.name-iterator
    × (goal.iterator-members).is_finite l.name-iterator
    × (unknown_name (members_view l.name-iterator) ≡ unknown_name (members_view l.table.entries))
