use Rattle.log_follower.proofs.Outcomes.{questions_are_paced}
use Rattle.log_follower.proofs.laws.questions_are_paced.Goals as goal

pub returns : goal.returns
returns c = questions_are_paced
