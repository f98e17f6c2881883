use Rattle.commands.proofs.Mended.{renames_alone}
use Rattle.commands.proofs.laws.renames_alone.Goals as goal

pub returns : goal.returns
returns c = renames_alone
