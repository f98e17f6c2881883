use Rattle.std.proofs.Common.{sym, ap, ◌∙◌, arith}
use Rattle.outbox.{specs.Outboxes.OutboxOf, specs.Outboxes.looked_at, proofs.Looking.looked_next}
use Rattle.outbox.proofs.outbox.Outbox.look.Goals as goal

pub loop-position-preserved : goal.loop-position-preserved
loop-position-preserved c =
    let least = c.loop-position.invariant.least in
    record {
      so_far =
          c.in_ok-look_at.ensures.ok
          ∙ ap (λ (o : OutboxOf). looked_at o c.in-Some.entry.now c.loop-position.position)
          c.loop-position.invariant.so_far
          ∙ looked_next c.args.self.now c.args.log.now.entries c.loop-position.position
          c.in-Some.entry.now least (sym c.in-Some.ensures);
      least = omega (arith, least);
    }
