use Rattle.seal.proofs.Differing.{no_mark}
use Rattle.seal.proofs.laws.told_by_four_bytes.Goals as goal

pub returns : goal.returns
returns c = no_mark
