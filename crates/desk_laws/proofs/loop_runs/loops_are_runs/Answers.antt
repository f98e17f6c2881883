use Rattle.desk_laws.proofs.LoopRuns.{loop_entries_are_submitted, loop_logs_agree}
use Rattle.desk_laws.proofs.{LoopRuns.loops_are_runs as law, Servings.servings_are_doings}
use Rattle.desk_laws.proofs.loop_runs.loops_are_runs.Goals as goal

pub returns-clause-run : goal.returns-clause-run
returns-clause-run g c = law _ c.calls_are_happenings.ensures

pub returns-clause-logs_agree : goal.returns-clause-logs_agree
returns-clause-logs_agree g c =
    loop_logs_agree _ c.calls_are_happenings.ensures c.stops_make_a_run.ensures.agree

pub returns-clause-submitted : goal.returns-clause-submitted
returns-clause-submitted g c =
    loop_entries_are_submitted _ c.calls_are_happenings.ensures c.stops_make_a_run.ensures.submitted

pub returns-clause-servings : goal.returns-clause-servings
returns-clause-servings g c = servings_are_doings _
