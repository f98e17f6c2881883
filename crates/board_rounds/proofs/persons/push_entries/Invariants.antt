use Rattle.std.proofs.Common.{◌≡◌, ◌++◌, flat_map, drop}
use Rattle.board_rounds.specs.Persons.{entry}
use Rattle.board_rounds.proofs.persons.push_entries.Given as goal

-- the rounds so far and those that are left
abbrev pub invariant-loop-id : goal.invariant-loop-id
invariant-loop-id l =
    l.out.items ++ flat_map (entry l.meet.accepted l.number) (drop l.id-index l.ids)
    ≡ l.initial.out.items ++ flat_map (entry l.meet.accepted l.number) l.ids
