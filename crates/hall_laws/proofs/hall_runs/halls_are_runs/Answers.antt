use Rattle.hall_laws.proofs.{HallExample.small_run_is_a_run, Losses.losses_are_nothing}
use Rattle.hall_laws.proofs.HallRuns.{halls_are_runs as law, hall_logs_agree}
use Rattle.hall_laws.proofs.HallRuns.{hall_entries_are_submitted, hall_messages_are_named}
use Rattle.hall_laws.proofs.HallCopies.{hall_answers_wait, hall_sheets, hall_sheets_agree}
use Rattle.hall_laws.proofs.HallGoing.{own_ticks_are_events, settlings_are_events, turns_are_events}
use Rattle.hall_laws.proofs.Lost.{lost_work}
use Rattle.hall_laws.proofs.hall_runs.halls_are_runs.Goals as goal

pub returns-clause-run : goal.returns-clause-run
returns-clause-run g c = law _ c.calls_are_happenings.ensures

pub returns-clause-logs_agree : goal.returns-clause-logs_agree
returns-clause-logs_agree g c =
    hall_logs_agree _ c.calls_are_happenings.ensures c.stops_make_a_run.ensures.agree

pub returns-clause-submitted : goal.returns-clause-submitted
returns-clause-submitted g c =
    hall_entries_are_submitted _ c.calls_are_happenings.ensures c.stops_make_a_run.ensures.submitted

pub returns-clause-answers : goal.returns-clause-answers
returns-clause-answers g c = hall_answers_wait _ c.calls_are_happenings.ensures

pub returns-clause-sheets : goal.returns-clause-sheets
returns-clause-sheets g c = hall_sheets _ c.sheets_are_of_the_log.ensures

pub returns-clause-sheets_agree : goal.returns-clause-sheets_agree
returns-clause-sheets_agree g c =
    hall_sheets_agree _ (hall_sheets _ c.sheets_are_of_the_log.ensures)
    (hall_logs_agree _ c.calls_are_happenings.ensures c.stops_make_a_run.ensures.agree)

pub returns-clause-named : goal.returns-clause-named
returns-clause-named g c = hall_messages_are_named _ c.calls_are_happenings.ensures

pub returns-clause-turns : goal.returns-clause-turns
returns-clause-turns g c = turns_are_events _

pub returns-clause-ticks : goal.returns-clause-ticks
returns-clause-ticks g c = own_ticks_are_events _

pub returns-clause-settlings : goal.returns-clause-settlings
returns-clause-settlings g c = settlings_are_events _

pub returns-clause-lost : goal.returns-clause-lost
returns-clause-lost g c =
    lost_work _ c.calls_are_happenings.ensures
    (λ x s log settled found. g.met.K.Keeper.rests x s log settled found)

pub returns-clause-losses : goal.returns-clause-losses
returns-clause-losses g c =
    losses_are_nothing _ (lost_work _ c.calls_are_happenings.ensures
    (λ x s log settled found. g.met.K.Keeper.rests x s log settled found))

pub returns-clause-example : goal.returns-clause-example
returns-clause-example g c = small_run_is_a_run _
