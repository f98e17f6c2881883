use Rattle.cube.specs.model.Pieces.{colours_of, shown}
use Rattle.cube.proofs.QuarterTurns.{face_R}
use Rattle.cube.proofs.pieces.Pieces.right_turned.Goals as goal

pub returns : goal.returns
unfolding colours_of
returns c =
    rw (
      c.clockwise-urf.ensures,
      c.anticlockwise-ubr.ensures,
      c.anticlockwise-dfr.ensures,
      c.clockwise-drb.ensures,
    ) (face_R (shown c.args.self))
