use Rattle.std.proofs.Common.{◌≡◌, ◌++◌}
use Rattle.table_entry_views.specs.Beside.{attempt_cells}
use Rattle.table_entry_views.proofs.beside.push_attempts.Given as goal

-- a cell was added for each attempt so far
abbrev pub invariant-loop-place : goal.invariant-loop-place
invariant-loop-place l =
    l.out.items ≡ l.initial.out.items ++ attempt_cells l.unit l.values l.place
