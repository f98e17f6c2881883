use Rattle.cube.specs.model.Pieces.{colours_of, shown}
use Rattle.cube.proofs.QuarterTurns.{turn_X, opposite_twice}
use Rattle.cube.proofs.pieces.Pieces.turned_about_x.Goals as goal

pub returns : goal.returns
unfolding colours_of
returns c =
    rw (
      c.clockwise-urf.ensures,
      c.anticlockwise-ufl.ensures,
      c.clockwise-ulb.ensures,
      c.anticlockwise-ubr.ensures,
      c.anticlockwise-dfr.ensures,
      c.clockwise-dlf.ensures,
      c.anticlockwise-dbl.ensures,
      c.clockwise-drb.ensures,
      c.flip-uf.ensures,
      c.flip-ub.ensures,
      c.flip-df.ensures,
      c.flip-db.ensures,
      c.opposite.ensures,
      opposite_twice c.args.self.facing.up,
    )
    (turn_X (shown c.args.self))
