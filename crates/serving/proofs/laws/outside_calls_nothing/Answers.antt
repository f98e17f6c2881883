use Rattle.serving.proofs.Outside.{outside_calls_nothing}
use Rattle.serving.proofs.laws.outside_calls_nothing.Goals as goal

pub returns : goal.returns
returns c = outside_calls_nothing
