use Rattle.std.proofs.Common.{refl}
use Rattle.arguments.proofs.key.key_of.Goals as goal

pub returns : goal.returns
returns c = (refl, c.given_text-file.ensures)
