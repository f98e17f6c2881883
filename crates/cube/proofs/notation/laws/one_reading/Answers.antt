use Rattle.cube.proofs.notation.Scanning.{spells_once}
use Rattle.cube.proofs.notation.laws.one_reading.Goals as goal

pub returns : goal.returns
returns c = spells_once
