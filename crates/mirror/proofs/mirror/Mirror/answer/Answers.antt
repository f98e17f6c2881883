use Rattle.std.proofs.Common.{ap, ◌∙◌, List}
use Rattle.acceptor.specs.declared.entry.Entry.{Entry}
use Rattle.answers.{specs.Transcripts.answer_at, proofs.Transcripts.answered}
use Rattle.mirror.proofs.mirror.Mirror.answer.Goals as goal

pub returns : goal.returns
returns c =
    c.answer.ensures
    ∙ answered c.self.inside.transcript c.self.inside.log.entries c.args.position c.self.invariant
    ∙ ap (λ (es : List Entry). answer_at es c.args.position) c.self.view_is
