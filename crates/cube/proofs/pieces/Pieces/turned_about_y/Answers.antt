use Rattle.cube.specs.model.Pieces.{colours_of, shown}
use Rattle.cube.proofs.QuarterTurns.{turn_Y, opposite_twice}
use Rattle.cube.proofs.pieces.Pieces.turned_about_y.Goals as goal

pub returns : goal.returns
unfolding colours_of
returns c =
    rw (
      c.flip-fr.ensures,
      c.flip-fl.ensures,
      c.flip-bl.ensures,
      c.flip-br.ensures,
      c.opposite.ensures,
      opposite_twice c.args.self.facing.front,
    ) (turn_Y (shown c.args.self))
