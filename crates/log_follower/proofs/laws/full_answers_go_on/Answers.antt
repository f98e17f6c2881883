use Rattle.log_follower.proofs.Outcomes.{full_answers_go_on}
use Rattle.log_follower.proofs.laws.full_answers_go_on.Goals as goal

pub returns : goal.returns
returns c = full_answers_go_on
