use Rattle.hall_laws.proofs.Calls.{answer_is_event, openings_are_restarts}
use Rattle.hall_laws.proofs.Stopping.{stops_make_a_run as law, real_logs_agree}
use Rattle.hall_laws.proofs.Stopping.{real_entries_are_submitted}
use Rattle.hall_laws.proofs.stops.stops_make_a_run.Goals as goal

pub returns-clause-run : goal.returns-clause-run
returns-clause-run c = law

pub returns-clause-agree : goal.returns-clause-agree
returns-clause-agree c = real_logs_agree c.logs_agree.ensures

pub returns-clause-submitted : goal.returns-clause-submitted
returns-clause-submitted c = real_entries_are_submitted c.logs_are_submitted.ensures

pub returns-clause-answered : goal.returns-clause-answered
returns-clause-answered c = answer_is_event

pub returns-clause-opened : goal.returns-clause-opened
returns-clause-opened c = openings_are_restarts
