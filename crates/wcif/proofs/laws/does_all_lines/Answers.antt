use Rattle.wcif.proofs.Lines.{does_all}
use Rattle.wcif.proofs.laws.does_all_lines.Goals as goal

pub returns : goal.returns
returns c = does_all
