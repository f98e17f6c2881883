use Rattle.learner.proofs.Consequences.{logs_grow as law}
use Rattle.learner.proofs.laws.logs_grow.Goals as goal

pub returns : goal.returns
returns c = law
