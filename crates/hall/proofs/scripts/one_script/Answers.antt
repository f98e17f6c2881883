use Rattle.hall.proofs.Spelled.{spelled_once, script_once}
use Rattle.hall.proofs.scripts.one_script.Goals as goal

pub returns-clause-event : goal.returns-clause-event
returns-clause-event c = spelled_once

pub returns-clause-script : goal.returns-clause-script
returns-clause-script c = script_once
