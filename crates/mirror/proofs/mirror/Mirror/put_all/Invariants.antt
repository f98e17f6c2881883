use Rattle.std.proofs.Common.{length}
use Rattle.mirror.proofs.Holding.{IsPutting}
use Rattle.mirror.proofs.mirror.Mirror.put_all.Given as goal

abbrev pub invariant-loop-entry : goal.invariant-loop-entry
invariant-loop-entry l = IsPutting l.initial.self l.initial.left.items l.self l.left.items

abbrev pub decreases-loop-entry : goal.decreases-loop-entry
decreases-loop-entry l = length l.left.items
