use Rattle.std.proofs.Common.{◌≡◌, ◌++◌}
use Rattle.std.specs.Option.{option_copied}
use Rattle.table_entry_views.specs.paper.Labels.{labels}
use Rattle.table_entry_views.proofs.paper.labels.push_labels.Given as goal

-- a label was added for each number so far
abbrev pub invariant-loop-number : goal.invariant-loop-number
invariant-loop-number l =
    l.out.items ≡ l.initial.out.items ++ labels l.meet.accepted (option_copied l.file) l.number
