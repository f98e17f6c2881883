use Rattle.std.proofs.Common.{◌<◌, subst, sym}
use Rattle.outbox.specs.Outboxes.{AsksNext, OutboxOf, kept_from, outbox, with_line}
use Rattle.outbox.proofs.Asking.{asks_next}
use Rattle.outbox.proofs.outbox.Outbox.ask.Goals as goal

pub returns-then-ask : goal.returns-then-ask
returns-then-ask c =
    let i = c.self.inside in
    let seen : OutboxOf =
    outbox i.items i.seen i.decided.keys i.hall i.desk i.aim i.line i.next i.refusal in
    let line = c.ask.new.self in
    subst (λ (o : OutboxOf). AsksNext (kept_from o.list o.next) c.args.now o (with_line seen line))
    c.self.view_is
    (asks_next c.ask.result c.args.now c.in-Some.entry c.submit_request-request.result seen line
    c.if-ask.true (subst (λ (o : OutboxOf). o.next < o.list.kept) (sym c.self.view_is) c.requires)
    c.in-Some.ensures c.submit_request-request.ensures.request c.ask.ensures)
