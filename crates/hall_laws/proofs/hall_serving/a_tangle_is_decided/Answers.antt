use Rattle.hall_laws.specs.Memory.{memory}
use Rattle.hall_laws.proofs.{Calls.calls_are_happenings, HallTangle.tangle_is_decided}
use Rattle.hall_laws.proofs.hall_serving.a_tangle_is_decided.Goals as goal

pub returns : goal.returns
returns c =
    tangle_is_decided (calls_are_happenings memory) c.stops_make_a_run.ensures.run
    c.no_desk_is_stuck.ensures.queue c.no_serving_desk_is_stuck.ensures
