use Rattle.std.proofs.Common.{ap, subst, None, true}
use Rattle.desk_talks.specs.KeptConnections.{AsksOver, KeptConnectionOf}
use Rattle.kept_mirror.specs.Mirrorings.{MirroringOf, mirroring, question_by}
use Rattle.kept_mirror.proofs.mirroring.Mirroring.ask.Goals as goal

pub returns-then-ask : goal.returns-then-ask
returns-then-ask c =
    let old = c.args.self.now in
    let line = c.ask.new.self in
    let question = question_by old.awaits old in (
      line,
      subst (λ (l : KeptConnectionOf). AsksOver true c.args.now question l line)
          (ap (λ (m : MirroringOf). m.line) c.self.view_is)
          (subst (λ b. AsksOver b c.args.now question c.self.inside.line line) c.if-ask.true
          (subst (λ q. AsksOver c.ask.result c.args.now q c.self.inside.line line)
          c.question-question.ensures.question c.ask.ensures)),
      ap (λ (m : MirroringOf). mirroring m.hall m.follower line m.entries None) c.self.view_is,
    )
