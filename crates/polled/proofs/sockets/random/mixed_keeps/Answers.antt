use Rattle.polled.proofs.sockets.Sums.{mixed_keeps}
use Rattle.polled.proofs.sockets.random.mixed_keeps.Goals as goal

pub returns : goal.returns
returns c = mixed_keeps
