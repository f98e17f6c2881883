use Rattle.seal_laws.proofs.{Connected.connected, Connected.entry_connected, Hearing.both_hear}
use Rattle.seal_laws.proofs.laws.both_sides_hear.Goals as goal

pub returns-clause-hear : goal.returns-clause-hear
returns-clause-hear c = both_hear

pub returns-clause-example : goal.returns-clause-example
returns-clause-example c = connected

pub returns-clause-entry_example : goal.returns-clause-entry_example
returns-clause-entry_example c = entry_connected
