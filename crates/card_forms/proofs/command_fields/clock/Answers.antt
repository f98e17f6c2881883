use Rattle.std.proofs.Common.{◌∙◌, ℕ, Option, subst, sym}
use Rattle.std.specs.Prelude.{IfSome}
use Rattle.card_forms.{specs.Asking.IsClock, proofs.Lacking.clock_lacks, proofs.Lacking.clock_value}
use Rattle.card_forms.proofs.command_fields.clock.Goals as goal

pub returns-clause-value : goal.returns-clause-value
returns-clause-value c =
    subst (λ (o : Option ℕ). IfSome o (IsClock c.args.text.now)) (sym c.clock_of.ensures)
    (clock_value c.args.text.now c.read.result c.read.ensures.found)

pub returns-clause-lacks : goal.returns-clause-lacks
returns-clause-lacks c none =
    clock_lacks c.args.text.now c.read.result c.read.ensures.only (sym c.clock_of.ensures ∙ none)
