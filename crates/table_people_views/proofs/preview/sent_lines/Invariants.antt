use Rattle.std.proofs.Common.{◌≡◌, ◌++◌, drop, flat_map}
use Rattle.table_people_views.specs.Preview.{sent_line}
use Rattle.table_people_views.proofs.preview.sent_lines.Given as goal

-- what was written, and what is written for those that are left, is the whole
abbrev pub invariant-loop-one : goal.invariant-loop-one
invariant-loop-one l =
    l.lines.items ++ flat_map sent_line (drop l.one-index l.tried) ≡ flat_map sent_line l.tried
