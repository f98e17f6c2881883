use Rattle.std.proofs.Common.{refl, subst, sym}
use Rattle.card_forms.specs.{Asking.IsClock, Faults.LacksAs}
use Rattle.card_forms.specs.declared.command_faults.Field.TheVariants as field
use Rattle.card_forms.specs.declared.command_faults.FieldError.TheVariants as wrong
use Rattle.card_forms.proofs.command_fields.time_below.Goals as goal

pub returns-in-None-clause-lacks : goal.returns-in-None-clause-lacks
returns-in-None-clause-lacks c =
    subst (LacksAs (IsClock c.args.text.now) (field.Cutoff, wrong.NotATime)) (sym c.wrong.ensures)
    (c.clock.ensures.lacks c.in-None.is, refl)
