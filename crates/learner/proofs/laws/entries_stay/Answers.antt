use Rattle.learner.proofs.Consequences.{entries_stay as law}
use Rattle.learner.proofs.laws.entries_stay.Goals as goal

pub returns : goal.returns
returns c = law
