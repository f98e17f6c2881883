use Rattle.table_service.proofs.Beside.{only_show}
use Rattle.table_service.proofs.laws.reads_only_show.Goals as goal

pub returns : goal.returns
returns c = only_show
