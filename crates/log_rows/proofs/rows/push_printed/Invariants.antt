use Rattle.std.proofs.Common.{◌≡◌, ◌++◌, map, take}
use Rattle.log_rows.specs.Rows.{printed}
use Rattle.log_rows.proofs.rows.push_printed.Given as goal

abbrev pub invariant-loop-byte : goal.invariant-loop-byte
invariant-loop-byte l = l.out.items ≡ l.initial.out.items ++ map printed (take l.byte-index l.text)
