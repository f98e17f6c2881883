use Rattle.hall_laws.proofs.OwnMessages.{messages_arrive, runs_arrive}
use Rattle.hall_laws.proofs.arriving.messages_arrive.Goals as goal

pub returns-clause-messages : goal.returns-clause-messages
returns-clause-messages c = messages_arrive c.one_spelling_each.ensures.read_where_spelled

pub returns-clause-runs : goal.returns-clause-runs
returns-clause-runs c = runs_arrive c.one_spelling_each.ensures.read_where_spelled
