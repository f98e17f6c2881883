use Rattle.seal.proofs.Differing.{back}
use Rattle.seal.proofs.laws.reads_back.Goals as goal

pub returns : goal.returns
returns c = back
