use Rattle.table_service.proofs.Taken.{taken_for_forms}
use Rattle.table_service.proofs.laws.forms_alone_are_taken.Goals as goal

pub returns : goal.returns
returns c = taken_for_forms
