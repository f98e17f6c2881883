use Rattle.std.proofs.Common.{◌∙◌, ap, codes}
use Rattle.formats.specs.{declared.events.Format.Format, Events.format_named}
use Rattle.scorecard.specs.Spelling.{trimmed}
use Rattle.card_forms.{specs.Asking.field as value_in, proofs.Lacking.ok_or_lacks}
use Rattle.card_forms.specs.declared.command_faults.Field.TheVariants as field
use Rattle.card_forms.specs.declared.command_faults.FieldFault.TheVariants as at
use Rattle.card_forms.specs.declared.command_faults.FieldError.TheVariants as wrong
use Rattle.card_forms.proofs.command_fields.format.Goals as goal

pub returns-clause-lacks : goal.returns-clause-lacks
returns-clause-lacks c =
    ok_or_lacks Format c.from_name.result
    (format_named (value_in (codes "format") c.args.pairs.now))
    (c.from_name.ensures ∙ ap format_named (c.trimmed-text.ensures ∙ ap trimmed c.value.ensures))
    c.wrong.result (at.Wrong field.Format wrong.NotAFormat) c.wrong.ensures c.ok_or.result
    c.ok_or.ensures.value
