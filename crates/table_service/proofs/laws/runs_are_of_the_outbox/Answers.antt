use Rattle.table_service.proofs.Running.{runs_are_of_the_outbox}
use Rattle.table_service.proofs.laws.runs_are_of_the_outbox.Goals as goal

pub returns : goal.returns
returns c = runs_are_of_the_outbox c.submits_what_is_kept.ensures
