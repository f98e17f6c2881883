use Rattle.table_service.proofs.Secured.{secured}
use Rattle.table_service.proofs.laws.answers_are_secured.Goals as goal

pub returns : goal.returns
returns c = secured
