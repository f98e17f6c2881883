use Rattle.archive.proofs.Archived.{Archived}
use Rattle.archive.proofs.writing.write_log_from.Given as goal

-- the lines in front of the position are written, or wait
abbrev pub invariant-loop-pos : goal.invariant-loop-pos
invariant-loop-pos g l =
    Archived l.fn.from l.fn.log.entries l.pos (g.W.Write.contents l.initial.writer)
    (g.W.Write.contents l.writer) l.out.items
