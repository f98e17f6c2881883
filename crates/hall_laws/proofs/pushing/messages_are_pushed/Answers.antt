use Rattle.hall_laws.proofs.Pushes.{messages_pushed, runs_are_due, events_first, others_do_nothing}
use Rattle.hall_laws.proofs.pushing.messages_are_pushed.Goals as goal

pub returns-clause-pushed : goal.returns-clause-pushed
returns-clause-pushed c = messages_pushed

pub returns-clause-runs : goal.returns-clause-runs
returns-clause-runs c = runs_are_due

pub returns-clause-first : goal.returns-clause-first
returns-clause-first c = events_first

pub returns-clause-nothing : goal.returns-clause-nothing
returns-clause-nothing c = others_do_nothing
