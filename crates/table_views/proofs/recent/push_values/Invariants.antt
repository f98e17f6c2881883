use Rattle.std.proofs.Common.{◌≡◌, ◌++◌, drop, flat_map}
use Rattle.table_views.specs.Recent.{value_words}
use Rattle.table_views.proofs.recent.push_values.Given as goal

-- what was written, and what is written for those that are left, is the whole
abbrev pub invariant-loop-value : goal.invariant-loop-value
invariant-loop-value l =
    l.out.items ++ flat_map (value_words l.unit) (drop l.value-index l.values)
    ≡ l.initial.out.items ++ flat_map (value_words l.unit) l.values
