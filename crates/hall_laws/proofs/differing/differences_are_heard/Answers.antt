use Rattle.hall_laws.proofs.Heard as heard
use Rattle.hall_laws.proofs.differing.differences_are_heard.Goals as goal

pub returns-clause-heard : goal.returns-clause-heard
returns-clause-heard c = heard.differences_are_heard

pub returns-clause-found : goal.returns-clause-found
returns-clause-found c = heard.differences_are_found
