use Rattle.table_service.proofs.TakenForms.{works_taking}
use Rattle.table_service.proofs.laws.a_form_is_taken.Goals as goal

pub returns : goal.returns
returns c = works_taking
