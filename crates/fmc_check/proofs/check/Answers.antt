use Rattle.std.proofs.Common.{◌≡◌, true, sym, ap, ◌∙◌}
use Rattle.attempts.specs.declared.Fm.TheVariants.{Moves}
use Rattle.fmc_check.proofs.Solutions.{moves_result, dnf_result}
use Rattle.fmc_check.proofs.check.Goals as goal

pub returns-then-solves-clause-value : goal.returns-then-solves-clause-value
returns-then-solves-clause-value c =
    ap Moves c.count.ensures
    ∙ sym (moves_result c.args.scramble.now c.args.solution.now (c.solution_is_tested.ensures _ _)
    (c.solves.ensures.solves.0 c.if-solves.true))

pub returns-else-solves-clause-value : goal.returns-else-solves-clause-value
returns-else-solves-clause-value c =
    sym (dnf_result c.args.scramble.now c.args.solution.now (c.solution_is_tested.ensures _ _)
    (λ h. let shown : c.solves.result ≡ true = c.solves.ensures.solves.1 h in
    cc (shown, c.if-solves.false)))
