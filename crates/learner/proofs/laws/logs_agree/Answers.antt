use Rattle.learner.proofs.Consequences.{logs_agree as law}
use Rattle.learner.proofs.laws.logs_agree.Goals as goal

pub returns : goal.returns
returns c = law
