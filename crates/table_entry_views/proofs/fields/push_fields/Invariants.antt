use Rattle.std.proofs.Common.{◌≡◌, ◌++◌, drop, flat_map}
use Rattle.table_entry_views.specs.Fields.{field}
use Rattle.table_entry_views.proofs.fields.push_fields.Given as goal

-- what was written, and what is written for those that are left, is the whole
abbrev pub invariant-loop-attempt : goal.invariant-loop-attempt
invariant-loop-attempt l =
    l.out.items
    ++ flat_map (field l.draft l.unit l.values l.texts) (drop l.attempt-index l.attempts)
    ≡ l.initial.out.items ++ flat_map (field l.draft l.unit l.values l.texts) l.attempts
