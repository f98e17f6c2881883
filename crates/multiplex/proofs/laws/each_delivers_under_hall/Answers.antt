use Rattle.multiplex.proofs.UnderHall.{each_delivers}
use Rattle.multiplex.proofs.laws.each_delivers_under_hall.Goals as goal

pub returns : goal.returns
returns c = each_delivers
