use Rattle.hall_laws.proofs.Running.{calls_run}
use Rattle.hall_laws.proofs.served.calls_are_a_run.Goals as goal

pub returns : goal.returns
returns g c = calls_run _ c.calls_are_happenings.ensures
