use Rattle.learner.proofs.Consequences.{one_is_chosen as law}
use Rattle.learner.proofs.laws.one_is_chosen.Goals as goal

pub returns : goal.returns
returns c = law
