use Rattle.std.proofs.Common.{◌≡◌, ◌++◌, flat_map, drop}
use Rattle.board_rounds.specs.Absent.{absent_in}
use Rattle.board_rounds.proofs.absent.push_absent_of.Given as goal

-- the words so far and those on who is left
abbrev pub invariant-loop-number : goal.invariant-loop-number
invariant-loop-number l =
    l.out.items ++ flat_map (absent_in l.meet.accepted l.table) (drop l.number-index l.numbers)
    ≡ l.initial.out.items ++ flat_map (absent_in l.meet.accepted l.table) l.numbers
