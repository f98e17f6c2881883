use Rattle.std.proofs.Common.{◌≡◌, ◌++◌}
use Rattle.board_rounds.specs.Persons.{competitors}
use Rattle.board_rounds.proofs.persons.push_competitors.Given as goal

-- a competitor was added for each number so far
abbrev pub invariant-loop-number : goal.invariant-loop-number
invariant-loop-number l =
    l.out.items ≡ l.initial.out.items ++ competitors l.meet.accepted l.number
