use Rattle.guarded.proofs.Guarded.{guards_serve}
use Rattle.guarded.proofs.laws.guards_serve.Goals as goal

pub returns : goal.returns
returns g c = guards_serve g.D.Desk
