use Rattle.std.proofs.Common.{◌≡◌, ◌++◌, drop, flat_map}
use Rattle.table_people_views.specs.Person.{within}
use Rattle.table_people_views.proofs.person.push_rounds_of.Given as goal

-- what was written, and what is written for those that are left, is the whole
abbrev pub invariant-loop-round : goal.invariant-loop-round
invariant-loop-round l =
    l.out.items
    ++ flat_map (within l.meet.accepted l.number l.event) (drop l.round-index l.rounds)
    ≡ l.initial.out.items ++ flat_map (within l.meet.accepted l.number l.event) l.rounds
