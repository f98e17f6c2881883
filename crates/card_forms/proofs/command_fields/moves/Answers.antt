use Rattle.std.proofs.Common.{◌∙◌, ap, subst, sym}
use Rattle.scorecard.specs.Spelling.{trimmed}
use Rattle.card_forms.{specs.Asking.HasMoves, specs.Faults.LacksAs, proofs.Lacking.moves_lacking}
use Rattle.card_forms.specs.declared.command_faults.Field.TheVariants as field
use Rattle.card_forms.specs.declared.command_faults.FieldError.TheVariants as wrong
use Rattle.card_forms.proofs.command_fields.moves.Goals as goal

pub returns-in-Err-clause-lacks : goal.returns-in-Err-clause-lacks
returns-in-Err-clause-lacks c =
    subst (LacksAs (HasMoves c.args.pairs.now) (field.Moves, wrong.NotMoves))
    (sym c.moves_fault.ensures) (moves_lacking c.args.pairs.now c.trimmed.result.now
    (c.trimmed.ensures ∙ ap trimmed c.value.ensures) c.read.result c.read.ensures.only
    c.in-Err.fault c.in-Err.is)
