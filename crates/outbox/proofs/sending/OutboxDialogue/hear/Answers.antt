use Rattle.std.proofs.Common.{subst}
use Rattle.desk_talks.specs.KeptConnections.{HearsOver}
use Rattle.outbox.specs.Outboxes.{Follows, OutboxOf, with_line}
use Rattle.outbox.proofs.sending.OutboxDialogue.hear.Goals as goal

pub returns-clause-leads : goal.returns-clause-leads
returns-clause-leads c = record {
  heard = c.hear-heard.result;
  after = c.hear-heard.new.self;
  hears =
      subst (λ (o : OutboxOf). HearsOver c.hear-heard.result c.args.piece.now o.line
      c.hear-heard.new.self) c.self.view_is c.hear-heard.ensures;
  follows =
      subst (λ (o : OutboxOf). Follows c.hear-heard.result c.follow.result
      (with_line o c.hear-heard.new.self) c.follow.new.self) c.self.view_is c.follow.ensures;
}
