use Rattle.std.proofs.Common.{◌++◌, ◌∷◌, [], refl}
use Rattle.desk_requests.proofs.Polled.{watches_more}
use Rattle.desk_requests.proofs.polling.watch_standings.Goals as goal

pub loop-report-init : goal.loop-report-init
loop-report-init g c = ([], (refl, refl))

pub loop-report-preserved : goal.loop-report-preserved
loop-report-preserved g c =
    let before = c.loop-report.invariant in
    let one = c.in-Ok.ensures.ok in (
      before.0 ++ one.polled ∷ [],
      watches_more c.args.form c.args.inquiry before.0 one.polled _ _ _ _ _ _ before.1 one.asked
          one.written,
    )

pub returns-in-Err-clause-err : goal.returns-in-Err-clause-err
returns-in-Err-clause-err g c = record {
  times = c.loop-report.invariant.0;
  dialed = g.D.Dial.dialed c.loop-report.dial;
  written = g.W.Write.contents c.loop-report.writer;
  watched = c.loop-report.invariant.1;
  fails = c.in-Err.ensures.err;
}
