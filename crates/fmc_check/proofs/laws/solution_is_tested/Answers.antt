use Rattle.fmc_check.proofs.Solutions.{tests_solution}
use Rattle.fmc_check.proofs.laws.solution_is_tested.Goals as goal

pub returns : goal.returns
returns c = tests_solution c.solved_is_tested.ensures
