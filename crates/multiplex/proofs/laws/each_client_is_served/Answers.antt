use Rattle.multiplex.proofs.Following.{each_client}
use Rattle.multiplex.proofs.laws.each_client_is_served.Goals as goal

pub returns : goal.returns
returns g c = each_client g.D.Desk
