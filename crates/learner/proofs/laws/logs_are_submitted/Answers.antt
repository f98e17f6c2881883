use Rattle.learner.proofs.Origins.{logs_are_submitted as law}
use Rattle.learner.proofs.laws.logs_are_submitted.Goals as goal

pub returns : goal.returns
returns c = law
