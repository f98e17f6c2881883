use Rattle.std.proofs.Common.{◌≡◌, take}
use Rattle.cube.specs.notation.Notation.{spelling}
use Rattle.cube.proofs.notation.printing.print.Given as goal

-- the moves so far are written
abbrev pub invariant-loop-place : goal.invariant-loop-place
invariant-loop-place l = l.text.items ≡ spelling (take l.place l.moves)
