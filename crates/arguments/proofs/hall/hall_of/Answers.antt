use Rattle.std.proofs.Common.{refl}
use Rattle.arguments.proofs.hall.hall_of.Goals as goal

pub returns : goal.returns
returns c = (refl, c.in_ok-desks.ensures)
