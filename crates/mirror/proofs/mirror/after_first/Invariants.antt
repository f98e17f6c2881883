use Rattle.std.proofs.Common.{◌≡◌, drop}
use Rattle.mirror.proofs.mirror.after_first.Given as goal

abbrev pub invariant-loop : goal.invariant-loop
invariant-loop l = l.left.items ≡ drop l.counter l.initial.left.items
