use Rattle.cube.proofs.Space.{listed, found}
use Rattle.cube.proofs.laws.fifty_four_stickers.Goals as goal

pub returns-clause-each : goal.returns-clause-each
returns-clause-each c = listed

pub returns-clause-numbers : goal.returns-clause-numbers
returns-clause-numbers c = found
