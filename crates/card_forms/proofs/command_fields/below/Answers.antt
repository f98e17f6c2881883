use Rattle.std.proofs.Common.{◌∙◌, subst, sym}
use Rattle.std.specs.Prelude.{IfErr}
use Rattle.attempts.specs.declared.Unit.{Unit as Measure}
use Rattle.card_forms.specs.{Asking.IsBelow, Faults.LacksAs, Faults.said_below}
use Rattle.card_forms.proofs.command_fields.below.Goals as goal

pub returns-in-Time-clause-lacks : goal.returns-in-Time-clause-lacks
returns-in-Time-clause-lacks c =
    subst (λ (unit : Measure).
    IfErr c.time_below.result (LacksAs (IsBelow unit c.args.text.now) (said_below unit)))
    (sym c.in-Time.is ∙ c.unit_of.ensures) c.time_below.ensures.lacks
