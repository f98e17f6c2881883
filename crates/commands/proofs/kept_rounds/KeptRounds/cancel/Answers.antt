use Rattle.std.proofs.Common.{not, find, ap, ◌∙◌, rules}
use Rattle.std.proofs.lemmas.Fn.{filter_same}
use Rattle.commands.{specs.model.Kept.is_round, proofs.KeptLemmas.found_without}
use Rattle.commands.proofs.kept_rounds.KeptRounds.cancel.Goals as goal

pub returns-clause-done : goal.returns-clause-done
returns-clause-done c f s =
    let e = c.args.id.event in
    let r = c.args.id.round in
    ap (find (is_round f s))
    (filter_same _ (λ x. not (is_round e r x)) _ (λ x b g k. search rules) _ _
    c.retain.ensures.filtered)
    ∙ found_without e f r s c.args.self.now.opened.items
