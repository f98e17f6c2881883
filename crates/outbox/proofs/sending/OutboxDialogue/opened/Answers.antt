use Rattle.std.proofs.Common.{ap, subst}
use Rattle.desk_talks.specs.KeptConnections.{Opens}
use Rattle.outbox.specs.Outboxes.{OutboxOf, with_line}
use Rattle.outbox.proofs.sending.OutboxDialogue.opened.Goals as goal

pub returns-clause-leads : goal.returns-clause-leads
returns-clause-leads c = (
  c.opened.new.self,
  subst (λ (o : OutboxOf). Opens c.opened.result o.line c.opened.new.self) c.self.view_is
      c.opened.ensures,
  ap (λ (o : OutboxOf). with_line o c.opened.new.self) c.self.view_is,
)
