use Rattle.cube.specs.model.Pieces.{colours_of, shown}
use Rattle.cube.proofs.QuarterTurns.{face_L}
use Rattle.cube.proofs.pieces.Pieces.left_turned.Goals as goal

pub returns : goal.returns
unfolding colours_of
returns c =
    rw (
      c.anticlockwise-ufl.ensures,
      c.clockwise-ulb.ensures,
      c.clockwise-dlf.ensures,
      c.anticlockwise-dbl.ensures,
    ) (face_L (shown c.args.self))
