use Rattle.multiplex.proofs.Sharing.{turns_are_shared}
use Rattle.multiplex.proofs.laws.turns_are_shared.Goals as goal

pub returns : goal.returns
returns g c = turns_are_shared g.D.Desk
