use Rattle.commands.proofs.Cancelled.{cancels_as_before}
use Rattle.commands.proofs.laws.cancels_as_before.Goals as goal

pub returns : goal.returns
returns c = cancels_as_before
