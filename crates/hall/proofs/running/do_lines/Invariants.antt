use Rattle.std.proofs.Common.{List, ℕ, ◌-◌}
use Rattle.hall.proofs.Ran.{Ran}
use Rattle.hall.proofs.running.do_lines.Given as goal

-- the events of the lines that were given are done
abbrev pub invariant-loop-world : goal.invariant-loop-world
invariant-loop-world g l =
    (given : List ℕ)
    × Ran l.fn.desks l.lines l.world l.out.items given (g.R.Read.remaining l.initial.reader)
    (g.R.Read.remaining l.reader) (g.W.Write.contents l.initial.writer)
    (g.W.Write.contents l.writer)

abbrev pub decreases-loop-world : goal.decreases-loop-world
decreases-loop-world g l = 65537 - l.lines.lines
