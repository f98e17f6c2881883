use Rattle.links.proofs.Tries.{links_try_again}
use Rattle.links.proofs.laws.links_try_again.Goals as goal

pub returns : goal.returns
returns c = links_try_again
