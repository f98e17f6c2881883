use Rattle.connections.proofs.Interleaving.{each_is_served}
use Rattle.connections.proofs.laws.each_is_served.Goals as goal

pub returns : goal.returns
returns g c = each_is_served g.D.Desk
