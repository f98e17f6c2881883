use Rattle.log_follower.proofs.Outcomes.{behind_desks_are_left}
use Rattle.log_follower.proofs.laws.behind_desks_are_left.Goals as goal

pub returns : goal.returns
returns c = behind_desks_are_left
