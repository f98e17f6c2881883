use Rattle.serving.proofs.TurnLaws.{turns_serve}
use Rattle.serving.proofs.laws.turns_serve.Goals as goal

pub returns : goal.returns
returns g c = turns_serve g.D.Desk
