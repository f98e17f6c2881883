use Rattle.arguments.proofs.Alike.{asked_alike}
use Rattle.arguments.proofs.laws.replay_is_asked_alike.Goals as goal

pub returns : goal.returns
returns c = asked_alike
