use Rattle.std.proofs.Common.{arith}
use Rattle.proposer.proofs.proposer.Proposer.tick.Goals as goal

pub returns-in-Idle-clause-refused : goal.returns-in-Idle-clause-refused
returns-in-Idle-clause-refused c = λ why. grind (arith, c.tick_idle.ensures.refused why)

pub returns-in-Gathering-clause-refused : goal.returns-in-Gathering-clause-refused
returns-in-Gathering-clause-refused c = λ why. grind (arith, c.new_ballot.ensures.refused why)

pub returns-in-Leading-clause-refused : goal.returns-in-Leading-clause-refused
returns-in-Leading-clause-refused c = λ why. grind (arith, c.tick_leading.ensures.refused why)
