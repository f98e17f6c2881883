use Rattle.cube.specs.model.Pieces.{colours_of, shown}
use Rattle.cube.proofs.QuarterTurns.{face_B}
use Rattle.cube.proofs.pieces.Pieces.back_turned.Goals as goal

pub returns : goal.returns
unfolding colours_of
returns c =
    rw (
      c.anticlockwise-ulb.ensures,
      c.clockwise-ubr.ensures,
      c.clockwise-dbl.ensures,
      c.anticlockwise-drb.ensures,
      c.flip-ub.ensures,
      c.flip-db.ensures,
      c.flip-bl.ensures,
      c.flip-br.ensures,
    ) (face_B (shown c.args.self))
