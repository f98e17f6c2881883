use Rattle.std.proofs.Common.{◌≡◌, ◌++◌}
use Rattle.sheets.specs.Sheet.{attempts}
use Rattle.sheets.proofs.as_text.push_attempts.Given as goal

abbrev pub invariant-loop-place : goal.invariant-loop-place
invariant-loop-place l = l.out.items ≡ l.initial.out.items ++ attempts l.unit l.place l.values
