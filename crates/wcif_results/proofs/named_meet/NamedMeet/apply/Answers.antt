use Rattle.std.proofs.Common.{◌∙◌, ◌++◌, ap, sym}
use Rattle.wcif_results.{specs.Names.kept, specs.Names.names_given, proofs.Naming.named_after}
use Rattle.wcif_results.proofs.named_meet.NamedMeet.apply.Goals as goal

pub invariant_of-self-2 : goal.invariant_of-self-2
invariant_of-self-2 c =
    c.keep.ensures
    ∙ ap (λ xs. xs ++ kept c.in_ok-answer.answer c.in_ok-name.name)
    (c.in_ok-reserve.ensures.items ∙ c.self.invariant)
    ∙ sym (named_after c.self.inside.meet c.args.id c.args.text.now c.in_ok-answer.answer
    c.in_ok-name.name c.in_ok-answer.ensures.answer c.in_ok-name.ensures)
    ∙ sym (ap (λ h. names_given h.accepted) c.in_ok-answer.ensures.after)
