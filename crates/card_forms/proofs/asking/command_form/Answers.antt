use Rattle.std.proofs.Common.{rules}
use Rattle.card_forms.specs.Faults.{has_no_text}
use Rattle.card_forms.proofs.Refused.{fault_by, is_fault, refused_as}
use Rattle.card_forms.proofs.asking.command_form.Goals as goal

pub returns-in_err-text-clause-wrong : goal.returns-in_err-text-clause-wrong
returns-in_err-text-clause-wrong c =
    let f = c.in_err-text.field-0.0 in
    fault_by c.args.pairs.now c.from_residual-in_err-text.result f (search rules)
    (is_fault c.args.pairs.now f
    (refused_as c.args.pairs.now c.in_ok-asked.asked.text.items c.in_ok-asked.asked.blamed
    (has_no_text c.args.pairs.now) c.in_ok-asked.ensures.asks c.in_ok-asked.ensures.blamed f
    c.in_err-text.ensures.wrong))
