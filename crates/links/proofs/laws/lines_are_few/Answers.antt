use Rattle.links.proofs.Telling.{lines_are_few}
use Rattle.links.proofs.laws.lines_are_few.Goals as goal

pub returns : goal.returns
returns c = lines_are_few
