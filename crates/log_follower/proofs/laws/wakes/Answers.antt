use Rattle.log_follower.proofs.Waiting.{wakes}
use Rattle.log_follower.proofs.laws.wakes.Goals as goal

pub returns : goal.returns
returns c = wakes
