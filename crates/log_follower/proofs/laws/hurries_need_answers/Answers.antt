use Rattle.log_follower.proofs.Outcomes.{hurries_need_answers}
use Rattle.log_follower.proofs.laws.hurries_need_answers.Goals as goal

pub returns : goal.returns
returns c = hurries_need_answers
