use Rattle.std.proofs.Common.{◌≡◌, ◌≤◌, drop, length}
use Rattle.outbox.specs.{Items.ItemsOf, Outboxes.with_list}
use Rattle.table_service.specs.Services.{CannotTake, StaysKept, TakesAll}
use Rattle.table_service.proofs.service.take_all.Given as goal

abbrev pub invariant-loop-entry : goal.invariant-loop-entry
invariant-loop-entry l = record {
  taken : (last : ItemsOf) → TakesAll l.outbox.list (drop l.entry-index l.entries) l.now last
      → TakesAll l.fn.outbox.list l.entries l.now last;
  left : CannotTake l.outbox.list (drop l.entry-index l.entries) l.now
      → CannotTake l.fn.outbox.list l.entries l.now;
  same : l.fn.outbox.list.kept ≤ length l.fn.outbox.list.items
      → StaysKept l.fn.outbox.list l.outbox.list;
  others : l.outbox ≡ with_list l.fn.outbox l.outbox.list;
}
