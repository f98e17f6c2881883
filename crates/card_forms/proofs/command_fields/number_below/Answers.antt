use Rattle.std.proofs.Common.{◌∙◌, ℕ, ap, refl, subst, sym}
use Rattle.texts.specs.Fields.{number_between}
use Rattle.card_forms.{specs.Asking.IsNumberBelow, specs.Faults.LacksAs, proofs.Lacking.no_number}
use Rattle.card_forms.specs.declared.command_faults.Field.TheVariants as field
use Rattle.card_forms.specs.declared.command_faults.FieldError.TheVariants as wrong
use Rattle.card_forms.proofs.command_fields.number_below.Goals as goal

pub returns-in-None-clause-lacks : goal.returns-in-None-clause-lacks
returns-in-None-clause-lacks c =
    subst (LacksAs (IsNumberBelow c.args.text.now) (field.Cutoff, wrong.NotBetween 1 360000))
    (sym c.wrong.ensures) (
      no_number c.number_between.result (number_between 1 360000 c.args.text.now)
          (c.number_between.ensures.value
          ∙ ap (λ (n : ℕ). number_between 1 n c.args.text.now) c.from.ensures)
          c.in-None.is,
      refl,
    )
