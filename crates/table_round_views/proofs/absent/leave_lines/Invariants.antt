use Rattle.std.proofs.Common.{◌≡◌, ◌++◌, drop, flat_map}
use Rattle.table_round_views.specs.Absent.{leave_line}
use Rattle.table_round_views.proofs.absent.leave_lines.Given as goal

-- what was written, and what is written for those that are left, is the whole
abbrev pub invariant-loop-number : goal.invariant-loop-number
invariant-loop-number l =
    l.lines.items ++ flat_map (leave_line l.id) (drop l.number-index l.numbers)
    ≡ flat_map (leave_line l.id) l.numbers
