use Rattle.outbox.proofs.Passing.{passes_over_by_the_log}
use Rattle.outbox.proofs.laws.passes_over_by_the_log.Goals as goal

pub returns : goal.returns
returns c = passes_over_by_the_log
