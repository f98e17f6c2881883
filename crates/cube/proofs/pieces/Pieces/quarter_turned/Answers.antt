use Rattle.cube.proofs.Compositions.{block_turned}
use Rattle.cube.proofs.pieces.Pieces.quarter_turned.Goals as goal

pub returns-in-Block : goal.returns-in-Block
returns-in-Block c =
    rw (c.in-Block.is, c.rotated_with.ensures, c.face_turned-in-Block.ensures, c.opposite.ensures)
    (block_turned c.in-Block.side _)
