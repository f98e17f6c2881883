use Rattle.learner.proofs.InRange.{step_in_range as law}
use Rattle.learner.proofs.laws.steps_stay_in_range.Goals as goal

pub returns : goal.returns
returns c = law
