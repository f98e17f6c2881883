use Rattle.seal.proofs.Differing.{at_other}
use Rattle.seal.proofs.laws.stops_at_other_record.Goals as goal

pub returns : goal.returns
returns c = at_other
