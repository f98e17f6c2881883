use Rattle.desk_requests.specs.{Polling.outside, Watching.HasWatched}
use Rattle.desk_requests.proofs.polling.watch_standings.Given as goal

-- this many reports were written
abbrev pub invariant-loop-report : goal.invariant-loop-report
invariant-loop-report g l =
    HasWatched l.fn.form l.fn.inquiry
    (outside g.D.Dial.dialed g.W.Write.contents l.initial.dial l.dial l.initial.writer l.writer)
