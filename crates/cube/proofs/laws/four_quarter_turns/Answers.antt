use Rattle.cube.proofs.Compositions.{four_none}
use Rattle.cube.proofs.laws.four_quarter_turns.Goals as goal

pub returns : goal.returns
returns c = four_none
