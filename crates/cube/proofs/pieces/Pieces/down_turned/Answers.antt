use Rattle.cube.specs.model.Pieces.{colours_of, shown}
use Rattle.cube.proofs.QuarterTurns.{face_D}
use Rattle.cube.proofs.pieces.Pieces.down_turned.Goals as goal

pub returns : goal.returns
unfolding colours_of
returns c = face_D (shown c.args.self)
