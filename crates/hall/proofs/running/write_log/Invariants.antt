use Rattle.hall.proofs.Logged.{Logged}
use Rattle.hall.proofs.running.write_log.Given as goal

-- the entries in front of the position are printed
abbrev pub invariant-loop-pos : goal.invariant-loop-pos
invariant-loop-pos g l =
    Logged l.fn.desk l.fn.log.entries l.pos (g.W.Write.contents l.initial.writer)
    (g.W.Write.contents l.writer) l.out.items
