use Rattle.ticking.proofs.Ticks.{wakes}
use Rattle.ticking.proofs.laws.wakes.Goals as goal

pub returns : goal.returns
returns c = wakes
