use Rattle.ticking.proofs.Ticks.{ticks_in_time}
use Rattle.ticking.proofs.laws.ticks_in_time.Goals as goal

pub returns : goal.returns
returns c = ticks_in_time
