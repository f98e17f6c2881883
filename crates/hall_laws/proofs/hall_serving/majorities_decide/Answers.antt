use Rattle.hall_laws.proofs.HallProgress.{serving_decides}
use Rattle.hall_laws.proofs.hall_serving.majorities_decide.Goals as goal

pub returns : goal.returns
returns g c =
    serving_decides _ c.calls_are_happenings.ensures c.stops_make_a_run.ensures.run
    c.no_serving_desk_is_stuck.ensures
