use Rattle.ticking.proofs.Ticks.{in_time}
use Rattle.ticking.proofs.laws.keeps_time.Goals as goal

pub returns : goal.returns
returns c = in_time
