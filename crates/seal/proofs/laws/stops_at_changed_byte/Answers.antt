use Rattle.seal.proofs.Differing.{at_change}
use Rattle.seal.proofs.laws.stops_at_changed_byte.Goals as goal

pub returns : goal.returns
returns c = at_change
