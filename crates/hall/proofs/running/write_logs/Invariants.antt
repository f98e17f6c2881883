use Rattle.hall.proofs.Logged.{Logs}
use Rattle.hall.proofs.running.write_logs.Given as goal

-- the logs of the desks in front are written
abbrev pub invariant-loop-desk : goal.invariant-loop-desk
invariant-loop-desk g l =
    Logs l.fn.desks l.fn.world.events l.desk (g.W.Write.contents l.initial.writer)
    (g.W.Write.contents l.writer)
