use Rattle.std.proofs.Common.{subst}
use Rattle.desk_talks.specs.KeptConnections.{HearsOver}
use Rattle.kept_mirror.specs.Mirrorings.{Follows, MirroringOf, with_line}
use Rattle.kept_mirror.proofs.mirroring.MirroringDialogue.hear.Goals as goal

pub returns-clause-leads : goal.returns-clause-leads
returns-clause-leads c =
    let heard = c.hear-heard.result in
    let line = c.hear-heard.new.self in
    record {
      heard = heard;
      line = line;
      hears =
          subst (λ (m : MirroringOf). HearsOver heard c.args.piece.now m.line line) c.self.view_is
          c.hear-heard.ensures;
      follows =
          subst (λ (m : MirroringOf). Follows heard c.follow.result c.args.now (with_line m line)
          c.follow.new.self) c.self.view_is c.follow.ensures;
    }
