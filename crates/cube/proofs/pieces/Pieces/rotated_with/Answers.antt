use Rattle.std.proofs.Common.{sym}
use Rattle.cube.specs.declared.moves.{Axis.TheVariants.X, Axis.TheVariants.Y, Kind.TheVariants.Turn}
use Rattle.cube.{specs.declared.moves.Axis.TheVariants.Z, proofs.Compositions.anticlockwise_turned}
use Rattle.cube.proofs.pieces.Pieces.rotated_with.Goals as goal

pub returns-in-D : goal.returns-in-D
returns-in-D c =
    rw (c.in-D.is, c.rotated-in-D-3.ensures, c.rotated-in-D-2.ensures, c.rotated-in-D.ensures)
    (sym (anticlockwise_turned (Turn Y) _))

pub returns-in-L : goal.returns-in-L
returns-in-L c =
    rw (c.in-L.is, c.rotated-in-L-3.ensures, c.rotated-in-L-2.ensures, c.rotated-in-L.ensures)
    (sym (anticlockwise_turned (Turn X) _))

pub returns-in-B : goal.returns-in-B
returns-in-B c =
    rw (c.in-B.is, c.rotated-in-B-3.ensures, c.rotated-in-B-2.ensures, c.rotated-in-B.ensures)
    (sym (anticlockwise_turned (Turn Z) _))
