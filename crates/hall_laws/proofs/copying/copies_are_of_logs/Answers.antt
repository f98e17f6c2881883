use Rattle.hall_laws.proofs.HallCopies.{hall_copies, hall_logs_grow, hall_copies_begin_a_log}
use Rattle.hall_laws.proofs.HallCopies.{hall_copies_begin_its_log, hall_copies_agree}
use Rattle.hall_laws.proofs.copying.copies_are_of_logs.Goals as goal

pub returns-clause-copies : goal.returns-clause-copies
returns-clause-copies g c = hall_copies _

pub returns-clause-grow : goal.returns-clause-grow
returns-clause-grow g c = hall_logs_grow _ c.calls_are_happenings.ensures

pub returns-clause-begin_one : goal.returns-clause-begin_one
returns-clause-begin_one g c = hall_copies_begin_a_log _ c.halls_are_runs.ensures.logs_agree

pub returns-clause-begin_its : goal.returns-clause-begin_its
returns-clause-begin_its g c =
    hall_copies_begin_its_log _ (hall_logs_grow _ c.calls_are_happenings.ensures)

pub returns-clause-agree : goal.returns-clause-agree
returns-clause-agree g c = hall_copies_agree _ c.halls_are_runs.ensures.logs_agree
