use Rattle.std.proofs.Common.{◌∙◌, ap, refl, sym}
use Rattle.std.specs.Option.{option_map}
use Rattle.scorecard.specs.Spelling.{trimmed}
use Rattle.texts.specs.Table.{plain}
use Rattle.card_forms.specs.declared.command_faults.Field.TheVariants as field
use Rattle.card_forms.specs.declared.command_faults.FieldFault.TheVariants as at
use Rattle.card_forms.specs.declared.command_faults.FieldError.TheVariants as wrong
use Rattle.card_forms.proofs.Refused.{no_row, row_asks, row_blames, row_wrong}
use Rattle.card_forms.proofs.asking.asked_by_fields.Goals as goal

pub returns-in-Some-clause-asks : goal.returns-in-Some-clause-asks
returns-in-Some-clause-asks c =
    row_asks c.args.pairs.now c.trimmed-word.result.now
    (c.trimmed-word.ensures ∙ ap trimmed c.value.ensures) (plain c.in-Some.row.now)
    (sym (ap (option_map (λ row. plain row.now)) c.in-Some.is) ∙ c.row_named.ensures)
    c.asked_by_row.result c.asked_by_row.ensures.asks

pub returns-in-Some-clause-blamed : goal.returns-in-Some-clause-blamed
returns-in-Some-clause-blamed c =
    row_blames c.args.pairs.now c.trimmed-word.result.now
    (c.trimmed-word.ensures ∙ ap trimmed c.value.ensures) (plain c.in-Some.row.now)
    (sym (ap (option_map (λ row. plain row.now)) c.in-Some.is) ∙ c.row_named.ensures)
    c.asked_by_row.result c.asked_by_row.ensures.blamed c.asked_by_row.ensures.form

pub returns-in-Some-clause-wrong : goal.returns-in-Some-clause-wrong
returns-in-Some-clause-wrong c =
    row_wrong c.args.pairs.now c.trimmed-word.result.now
    (c.trimmed-word.ensures ∙ ap trimmed c.value.ensures) (plain c.in-Some.row.now)
    (sym (ap (option_map (λ row. plain row.now)) c.in-Some.is) ∙ c.row_named.ensures)
    c.asked_by_row.result c.asked_by_row.ensures.wrong

pub returns-in-None-clause-wrong : goal.returns-in-None-clause-wrong
returns-in-None-clause-wrong c =
    no_row c.args.pairs.now c.trimmed-word.result.now
    (c.trimmed-word.ensures ∙ ap trimmed c.value.ensures)
    (sym (ap (option_map (λ row. plain row.now)) c.in-None.is) ∙ c.row_named.ensures)
    (at.Wrong field.Command wrong.NoSuchCommand) refl
