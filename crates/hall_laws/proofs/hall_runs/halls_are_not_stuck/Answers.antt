use Rattle.hall_laws.proofs.HallProgress.{halls_are_not_stuck as law}
use Rattle.hall_laws.proofs.hall_runs.halls_are_not_stuck.Goals as goal

pub returns : goal.returns
returns g c =
    law _ c.calls_are_happenings.ensures c.stops_make_a_run.ensures.run
    c.no_desk_is_stuck.ensures.queue
