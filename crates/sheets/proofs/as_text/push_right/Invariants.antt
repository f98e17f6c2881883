use Rattle.std.proofs.Common.{◌≡◌, ◌++◌, replicate}
use Rattle.sheets.proofs.as_text.push_right.Given as goal

abbrev pub invariant-loop : goal.invariant-loop
invariant-loop l = l.out.items ≡ l.initial.out.items ++ replicate l.counter 32
