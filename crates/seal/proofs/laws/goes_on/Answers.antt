use Rattle.seal.proofs.Differing.{one_more}
use Rattle.seal.proofs.laws.goes_on.Goals as goal

pub returns : goal.returns
returns c = one_more
