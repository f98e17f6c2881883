use Rattle.std.proofs.Common.{◌≡◌, true, rules, sym, ◌∙◌}
use Rattle.texts.{specs.Table.plain, proofs.Rows.named_row}
use Rattle.card_forms.{specs.Asking.has_form, proofs.Asked.asked, proofs.Refused.unmade_row}
use Rattle.card_forms.proofs.asking.command_of.Goals as goal

pub values-requires : goal.values-requires
values-requires c = (named_row c.args.word.now (plain c.args.row.now) c.requires).few

pub returns-in-Some-clause-asked : goal.returns-in-Some-clause-asked
returns-in-Some-clause-asked c =
    let form : has_form c.args.row.now.tag ≡ true = search rules in
    asked c.args.pairs.now c.args.word.now (plain c.args.row.now) c.in_ok-values.values.items
    c.in-Some.command c.requires form c.in_ok-values.ensures.values
    (sym c.command_of_values.ensures ∙ c.in-Some.is)

pub returns-in-None-clause-wrong : goal.returns-in-None-clause-wrong
returns-in-None-clause-wrong c =
    unmade_row c.args.pairs.now c.args.word.now (plain c.args.row.now)
    c.in_ok-values.values.items c.requires c.in_ok-values.ensures.values
    (sym c.command_of_values.ensures ∙ c.in-None.is) _
