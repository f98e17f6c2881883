use Rattle.std.proofs.Common.{◌≡◌, ◌++◌, drop, flat_map}
use Rattle.sending_views.specs.Lines.{fault_line}
use Rattle.sending_views.proofs.open_lines.push_faults.Given as goal

-- what was written, and what is written for those that are left, is the whole
abbrev pub invariant-loop-fault : goal.invariant-loop-fault
invariant-loop-fault l =
    l.out.items ++ flat_map (fault_line l.meet.accepted) (drop l.fault-index l.faults)
    ≡ l.initial.out.items ++ flat_map (fault_line l.meet.accepted) l.faults
