use Rattle.std.proofs.Common.{◌∙◌, ap, codes}
use Rattle.texts.specs.declared.command.RoundId.{RoundId}
use Rattle.card_forms.specs.{Cards.round_of, Asking.field as value_in}
use Rattle.scorecard.specs.Spelling.{trimmed}
use Rattle.card_forms.proofs.Lacking.{ok_or_lacks}
use Rattle.card_forms.specs.declared.command_faults.Field.TheVariants as field
use Rattle.card_forms.specs.declared.command_faults.FieldFault.TheVariants as at
use Rattle.card_forms.specs.declared.command_faults.FieldError.TheVariants as wrong
use Rattle.card_forms.proofs.command_fields.round.Goals as goal

pub returns-clause-lacks : goal.returns-clause-lacks
returns-clause-lacks c =
    ok_or_lacks RoundId c.round_of.result (round_of (value_in (codes "round") c.args.pairs.now))
    (c.round_of.ensures ∙ ap round_of (c.trimmed-text.ensures ∙ ap trimmed c.value.ensures))
    c.wrong.result (at.Wrong field.Round wrong.NotARound) c.wrong.ensures c.ok_or.result
    c.ok_or.ensures.value
