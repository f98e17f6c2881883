use Rattle.cube.specs.model.Pieces.{colours_of, shown}
use Rattle.cube.proofs.QuarterTurns.{turn_Z, opposite_twice}
use Rattle.cube.proofs.pieces.Pieces.turned_about_z.Goals as goal

pub returns : goal.returns
unfolding colours_of
returns c =
    rw (
      c.anticlockwise-urf.ensures,
      c.clockwise-ufl.ensures,
      c.anticlockwise-ulb.ensures,
      c.clockwise-ubr.ensures,
      c.clockwise-dfr.ensures,
      c.anticlockwise-dlf.ensures,
      c.clockwise-dbl.ensures,
      c.anticlockwise-drb.ensures,
      c.flip-ur.ensures,
      c.flip-uf.ensures,
      c.flip-ul.ensures,
      c.flip-ub.ensures,
      c.flip-dr.ensures,
      c.flip-df.ensures,
      c.flip-dl.ensures,
      c.flip-db.ensures,
      c.flip-fr.ensures,
      c.flip-fl.ensures,
      c.flip-bl.ensures,
      c.flip-br.ensures,
      c.opposite.ensures,
      opposite_twice c.args.self.facing.right,
    ) (turn_Z (shown c.args.self))
