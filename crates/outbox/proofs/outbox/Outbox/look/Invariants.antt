use Rattle.std.proofs.Common.{◌≡◌, ◌≤◌, take}
use Rattle.outbox.specs.Outboxes.{looked}
use Rattle.outbox.proofs.outbox.Outbox.look.Given as goal

abbrev pub invariant-loop-position : goal.invariant-loop-position
invariant-loop-position l = record {
  so_far : l.self ≡ looked l.fn.self (take l.position l.log.entries);
  least : l.fn.self.seen ≤ l.position;
}
