use Rattle.std.proofs.Common.{length}
use Rattle.pages.proofs.Hearing.{Heard}
use Rattle.pages.proofs.turns.hear.Given as goal

abbrev pub invariant-loop-unheard : goal.invariant-loop-unheard
invariant-loop-unheard l = Heard l.fn.bytes l.unheard l.fn.connection l.connection

abbrev pub decreases-loop-unheard : goal.decreases-loop-unheard
decreases-loop-unheard l = length l.unheard
