use Rattle.std.proofs.Common.{◌∙◌, ap, sym, subst, [], ◌∷◌, ◌++◌}
use Rattle.answers.specs.Transcripts.{IsTranscript}
use Rattle.learner.specs.Logs.{LogValue}
use Rattle.mirror.proofs.mirror.Mirror.put.Goals as goal

pub invariant_of-self-2 : goal.invariant_of-self-2
invariant_of-self-2 c =
    let kept = ap (λ (l : LogValue). l.entries ++ c.args.entry ∷ []) c.in-Ok.ensures.ok in
    let entries = ap (λ (l : LogValue). l.entries) c.append.ensures ∙ kept in
    subst (IsTranscript c.take.new.self) (sym entries)
    (c.in_ok-take.ensures.taken c.self.inside.log.entries c.self.invariant)
