use Rattle.seal.proofs.Differing.{stops}
use Rattle.seal.proofs.laws.stops_at_difference.Goals as goal

pub returns : goal.returns
returns c = stops
