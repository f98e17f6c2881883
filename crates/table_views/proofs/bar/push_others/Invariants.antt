use Rattle.std.proofs.Common.{◌≡◌, ◌++◌, drop, flat_map}
use Rattle.table_views.specs.Bar.{and_machine}
use Rattle.table_views.proofs.bar.push_others.Given as goal

-- what was written, and what is written for those that are left, is the whole
abbrev pub invariant-loop-desk : goal.invariant-loop-desk
invariant-loop-desk l =
    l.out.items ++ flat_map and_machine (drop l.desk-index l.desks)
    ≡ l.initial.out.items ++ flat_map and_machine l.desks
