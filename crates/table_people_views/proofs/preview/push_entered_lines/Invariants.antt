use Rattle.std.proofs.Common.{◌≡◌, ◌++◌, drop, flat_map}
use Rattle.table_people_views.specs.Preview.{entered_line}
use Rattle.table_people_views.proofs.preview.push_entered_lines.Given as goal

-- what was written, and what is written for those that are left, is the whole
abbrev pub invariant-loop-one : goal.invariant-loop-one
invariant-loop-one l =
    l.out.items ++ flat_map (entered_line l.meet.accepted) (drop l.one-index l.tried)
    ≡ l.initial.out.items ++ flat_map (entered_line l.meet.accepted) l.tried
