use Rattle.cube.specs.model.Pieces.{colours_of, shown}
use Rattle.cube.proofs.QuarterTurns.{face_F}
use Rattle.cube.proofs.pieces.Pieces.front_turned.Goals as goal

pub returns : goal.returns
unfolding colours_of
returns c =
    rw (
      c.anticlockwise-urf.ensures,
      c.clockwise-ufl.ensures,
      c.clockwise-dfr.ensures,
      c.anticlockwise-dlf.ensures,
      c.flip-uf.ensures,
      c.flip-df.ensures,
      c.flip-fr.ensures,
      c.flip-fl.ensures,
    ) (face_F (shown c.args.self))
