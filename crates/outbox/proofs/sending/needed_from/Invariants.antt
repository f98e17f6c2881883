use Rattle.std.proofs.Common.{◌≡◌, ◌+◌}
use Rattle.std.specs.List.{prefix_len}
use Rattle.outbox.specs.Outboxes.{is_decided, kept_from}
use Rattle.outbox.proofs.sending.needed_from.Given as goal

abbrev pub invariant-loop-place : goal.invariant-loop-place
invariant-loop-place l =
    l.place + prefix_len (is_decided l.items l.decided.keys) (kept_from l.items l.place)
    ≡ l.fn.next + prefix_len (is_decided l.items l.decided.keys) (kept_from l.items l.fn.next)
