use Rattle.polled.proofs.sockets.Sums.{mixed_apart}
use Rattle.polled.proofs.sockets.random.mixed_apart.Goals as goal

pub returns : goal.returns
returns c = mixed_apart
