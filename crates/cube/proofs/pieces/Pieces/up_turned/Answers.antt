use Rattle.cube.specs.model.Pieces.{colours_of, shown}
use Rattle.cube.proofs.QuarterTurns.{face_U}
use Rattle.cube.proofs.pieces.Pieces.up_turned.Goals as goal

pub returns : goal.returns
unfolding colours_of
returns c = face_U (shown c.args.self)
