use Rattle.std.proofs.Common.{◌≡◌, drop}
use Rattle.table_service.specs.Taking.{other_in}
use Rattle.table_service.proofs.entries.other_in.Given as goal

abbrev pub invariant-loop-entry : goal.invariant-loop-entry
invariant-loop-entry l =
    other_in l.outbox.list l.entries ≡ other_in l.outbox.list (drop l.entry-index l.entries)
