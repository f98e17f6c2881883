use Rattle.std.proofs.Common.{◌≡◌, map, take}
use Rattle.store.specs.{Holding.log_values, Holding.entry_columns, Whole.LogIsWhole}
use Rattle.store.proofs.row_values.log_of.Given as goal

abbrev pub invariant-loop-row : goal.invariant-loop-row
invariant-loop-row l =
    (map entry_columns (take l.row-index l.rows) ≡ log_values 0 l.log.entries)
    × LogIsWhole l.log.entries
