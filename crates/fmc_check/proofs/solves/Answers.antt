use Rattle.std.proofs.Common.{ap, ◌∙◌}
use Rattle.cube.specs.Turns.{after}
use Rattle.fmc_check.proofs.Solutions.{tests_solves}
use Rattle.fmc_check.proofs.solves.Goals as goal

pub returns-clause-solves : goal.returns-clause-solves
returns-clause-solves c =
    tests_solves c.args.scramble.now c.args.solution.now _ _ c.if-solution-gt-MOST_MOVES.false
    (c.turn_all-2.ensures ∙ ap (after c.args.solution.now) (c.turn_all.ensures
    ∙ ap (after c.args.scramble.now) c.solved-cube.ensures.first)) c.is_solved.ensures
