use Rattle.multiplex.proofs.Visits.{over_down, over_kept}
use Rattle.multiplex.proofs.steps.over_for.Goals as goal

pub returns-in-Over-clause-settled : goal.returns-in-Over-clause-settled
returns-in-Over-clause-settled c = λ ok h. over_down ok c.args.reason c.args.over h c.in-Over.is

pub returns-in_default-clause-settled : goal.returns-in_default-clause-settled
returns-in_default-clause-settled c =
    λ ok h. over_kept ok c.args.reason c.args.over h c.in_default.not-Over
