use Rattle.sealed.proofs.Lawful.{opens}
use Rattle.sealed.proofs.laws.stands_opens.Goals as goal

pub returns : goal.returns
returns c = λ side came handed h. opens side.tunnel side came handed h
