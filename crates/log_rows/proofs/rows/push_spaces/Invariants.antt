use Rattle.std.proofs.Common.{◌≡◌, ◌++◌, replicate}
use Rattle.log_rows.proofs.rows.push_spaces.Given as goal

abbrev pub invariant-loop : goal.invariant-loop
invariant-loop l = l.out.items ≡ l.initial.out.items ++ replicate l.counter 32
