use Rattle.outbox.proofs.WorkedRuns.{worked_run}
use Rattle.outbox.proofs.laws.worked_run.Goals as goal

pub returns : goal.returns
returns c = worked_run
