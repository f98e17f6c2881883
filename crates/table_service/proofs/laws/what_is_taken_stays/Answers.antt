use Rattle.table_service.proofs.Running.{taken_stays}
use Rattle.table_service.proofs.laws.what_is_taken_stays.Goals as goal

pub returns : goal.returns
returns c = taken_stays c.loses_nothing.ensures.stays
