use Rattle.std.proofs.Common.{◌∙◌, ℕ, ap, sym}
use Rattle.scorecard.specs.Spelling.{trimmed}
use Rattle.texts.specs.Fields.{number_between}
use Rattle.card_forms.proofs.command_fields.number.Goals as goal

pub returns-in-None-clause-wrong : goal.returns-in-None-clause-wrong
returns-in-None-clause-wrong c =
    let text = c.trimmed-text.result.now in (
      c.wrong.ensures,
      ap (number_between c.args.low c.args.high)
          (sym (c.trimmed-text.ensures ∙ ap trimmed c.value.ensures))
          ∙ ap (λ (n : ℕ). number_between n c.args.high text) (sym c.from.ensures)
          ∙ ap (λ (n : ℕ). number_between c.from.result n text) (sym c.from-2.ensures)
          ∙ sym c.number_between.ensures.value ∙ c.in-None.is,
    )
