use Rattle.log_follower.proofs.Outcomes.{stops_for_good}
use Rattle.log_follower.proofs.laws.stops_for_good.Goals as goal

pub returns : goal.returns
returns c = stops_for_good
