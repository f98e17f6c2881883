use Rattle.std.proofs.Common.{◌≡◌, ◌++◌}
use Rattle.board_rounds.specs.Rows.{attempt_cells}
use Rattle.board_rounds.proofs.cells.push_attempts.Given as goal

-- a cell was added for each attempt so far
abbrev pub invariant-loop-place : goal.invariant-loop-place
invariant-loop-place l =
    l.out.items ≡ l.initial.out.items ++ attempt_cells l.unit l.format l.values l.place
