use Rattle.guarded.proofs.Delivering.{delivers_under_hall}
use Rattle.guarded.proofs.laws.delivers_under_hall.Goals as goal

pub returns : goal.returns
returns g c = delivers_under_hall g.D.Desk
