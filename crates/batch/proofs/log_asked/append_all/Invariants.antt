use Rattle.std.proofs.Common.{◌≡◌, ◌++◌, length}
use Rattle.batch.proofs.log_asked.append_all.Given as goal

-- the entries that are left come behind those that were put
abbrev pub invariant-loop-entry : goal.invariant-loop-entry
invariant-loop-entry l =
    l.log.entries ++ l.entries.items ≡ l.initial.log.entries ++ l.initial.entries.items

abbrev pub decreases-loop-entry : goal.decreases-loop-entry
decreases-loop-entry l = length l.entries.items
