use Rattle.std.proofs.Common.{◌≡◌, ◌++◌, drop, flat_map}
use Rattle.competition_file.specs.Files.{data_of, persons}
use Rattle.table_entry_views.specs.paper.Lists.{group_list}
use Rattle.table_entry_views.proofs.paper.group_lists.push_all_groups.Given as goal

-- what was written, and what is written for those that are left, is the whole
abbrev pub invariant-loop-group : goal.invariant-loop-group
invariant-loop-group l =
    l.out.items
    ++ flat_map (group_list (persons (data_of l.file)) l.id l.advance) (drop l.group-index l.groups)
    ≡ l.initial.out.items
    ++ flat_map (group_list (persons (data_of l.file)) l.id l.advance) l.groups
