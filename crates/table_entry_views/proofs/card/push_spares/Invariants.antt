use Rattle.std.proofs.Common.{◌≡◌, ◌++◌, drop, flat_map}
use Rattle.table_entry_views.specs.Card.{spare}
use Rattle.table_entry_views.proofs.card.push_spares.Given as goal

-- what was written, and what is written for those that are left, is the whole
abbrev pub invariant-loop-id : goal.invariant-loop-id
invariant-loop-id l =
    l.out.items ++ flat_map spare (drop l.id-index l.ids)
    ≡ l.initial.out.items ++ flat_map spare l.ids
