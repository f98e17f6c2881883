use Rattle.cube.proofs.notation.Scanning.{spelling_spells}
use Rattle.cube.proofs.notation.laws.printed_is_spelled.Goals as goal

pub returns : goal.returns
returns c = spelling_spells
