use Rattle.log_follower.proofs.Outcomes.{none_is_forgotten}
use Rattle.log_follower.proofs.laws.none_is_forgotten.Goals as goal

pub returns : goal.returns
returns c = none_is_forgotten
