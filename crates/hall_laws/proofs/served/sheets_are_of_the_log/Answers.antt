use Rattle.hall_laws.proofs.Running.{sheets_law}
use Rattle.hall_laws.proofs.served.sheets_are_of_the_log.Goals as goal

pub returns : goal.returns
returns c = sheets_law
