use Rattle.std.proofs.Common.{◌∙◌, ap, codes}
use Rattle.formats.specs.{declared.events.Event.Event, Events.event_of_name}
use Rattle.scorecard.specs.Spelling.{trimmed}
use Rattle.card_forms.specs.Asking.{field as value_in}
use Rattle.card_forms.proofs.Lacking.{event_lacks, ok_or_lacks}
use Rattle.card_forms.specs.declared.command_faults.Field.TheVariants as field
use Rattle.card_forms.specs.declared.command_faults.FieldFault.TheVariants as at
use Rattle.card_forms.specs.declared.command_faults.FieldError.TheVariants as wrong
use Rattle.card_forms.proofs.command_fields.event.Goals as goal

pub returns-clause-lacks : goal.returns-clause-lacks
returns-clause-lacks c =
    event_lacks c.args.pairs.now c.args.by_round c.if-by_round.false c.ok_or.result
    (ok_or_lacks Event c.from_name.result
    (event_of_name (value_in (codes "event") c.args.pairs.now))
    (c.from_name.ensures ∙ ap event_of_name (c.trimmed-text.ensures ∙ ap trimmed c.value.ensures))
    c.wrong.result (at.Wrong field.Event wrong.NotAnEvent) c.wrong.ensures c.ok_or.result
    c.ok_or.ensures.value)
