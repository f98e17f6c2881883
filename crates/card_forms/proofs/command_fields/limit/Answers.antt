use Rattle.std.proofs.Common.{◌∙◌, ap, refl, subst, sym}
use Rattle.scorecard.specs.Spelling.{trimmed}
use Rattle.card_forms.{specs.Asking.HasLimit, specs.Faults.LacksAs, proofs.Lacking.no_limit}
use Rattle.card_forms.specs.declared.command_faults.Field.TheVariants as field
use Rattle.card_forms.specs.declared.command_faults.FieldError.TheVariants as wrong
use Rattle.card_forms.proofs.command_fields.limit.Goals as goal

pub returns-in-None-clause-lacks : goal.returns-in-None-clause-lacks
returns-in-None-clause-lacks c =
    subst (LacksAs (HasLimit c.args.pairs.now) (field.Limit, wrong.NotATime))
    (sym c.wrong.ensures) (
      no_limit c.args.pairs.now c.trimmed-text.result.now
          (c.trimmed-text.ensures ∙ ap trimmed c.value.ensures)
          (sym c.is_none.ensures ∙ c.if-is_none.false) (c.clock.ensures.lacks c.in-None.is),
      refl,
    )
