use Rattle.learner.proofs.Consequences.{logs_are_chosen as law}
use Rattle.learner.proofs.laws.logs_are_chosen.Goals as goal

pub returns : goal.returns
returns c = law
