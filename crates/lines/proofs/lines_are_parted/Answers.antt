use Rattle.lines.proofs.Parted.{are_parts}
use Rattle.lines.proofs.lines_are_parted.Goals as goal

pub returns : goal.returns
returns c = are_parts
