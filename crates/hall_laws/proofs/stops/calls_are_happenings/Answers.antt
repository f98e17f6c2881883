use Rattle.hall_laws.proofs.Calls.{calls_are_happenings as law}
use Rattle.hall_laws.proofs.stops.calls_are_happenings.Goals as goal

pub returns : goal.returns
returns g c = law _
