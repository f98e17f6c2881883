use Rattle.hall_laws.proofs.Heard.{hall_decideds_stand, hall_lengths_grow, hall_runs_agree}
use Rattle.hall_laws.proofs.{HallExample.small_run_comes_in_order, Ordered.hall_never_differs}
use Rattle.hall_laws.proofs.differing.desks_never_differ.Goals as goal

pub returns-clause-decided : goal.returns-clause-decided
returns-clause-decided g c =
    hall_decideds_stand _ c.calls_are_happenings.ensures c.stops_make_a_run.ensures.run
    c.invariant.ensures.chosen c.one_is_chosen.ensures

pub returns-clause-runs : goal.returns-clause-runs
returns-clause-runs g c =
    hall_runs_agree _ (hall_decideds_stand _ c.calls_are_happenings.ensures
    c.stops_make_a_run.ensures.run c.invariant.ensures.chosen c.one_is_chosen.ensures)

pub returns-clause-lengths : goal.returns-clause-lengths
returns-clause-lengths g c =
    hall_lengths_grow _ c.calls_are_happenings.ensures c.stops_make_a_run.ensures.run
    c.steps_stay_in_range.ensures c.invariant.ensures.desks

pub returns-clause-never : goal.returns-clause-never
returns-clause-never g c =
    hall_never_differs _ c.calls_are_happenings.ensures
    (hall_runs_agree _ (hall_decideds_stand _ c.calls_are_happenings.ensures
    c.stops_make_a_run.ensures.run c.invariant.ensures.chosen c.one_is_chosen.ensures))
    (hall_lengths_grow _ c.calls_are_happenings.ensures c.stops_make_a_run.ensures.run
    c.steps_stay_in_range.ensures c.invariant.ensures.desks)

pub returns-clause-example : goal.returns-clause-example
returns-clause-example g c = small_run_comes_in_order _
