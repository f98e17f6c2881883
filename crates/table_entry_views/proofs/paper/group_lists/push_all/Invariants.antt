use Rattle.std.proofs.Common.{◌≡◌, ◌++◌, flat_map, map, take}
use Rattle.table_entry_views.specs.paper.Lists.{helper}
use Rattle.table_entry_views.proofs.paper.group_lists.push_all.Given as goal

abbrev pub invariant-loop-name : goal.invariant-loop-name
invariant-loop-name l =
    l.out.items
    ≡ l.initial.out.items
    ++ flat_map helper (map (λ name. name.items) (take l.name-index l.names))
