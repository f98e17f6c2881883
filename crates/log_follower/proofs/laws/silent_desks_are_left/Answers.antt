use Rattle.log_follower.proofs.Outcomes.{silent_desks_are_left}
use Rattle.log_follower.proofs.laws.silent_desks_are_left.Goals as goal

pub returns : goal.returns
returns c = silent_desks_are_left
