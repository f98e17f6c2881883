use Rattle.std.proofs.Common.{arith}
use Rattle.proposer.proofs.proposer.Proposer.start.Goals as goal

pub returns-in-Idle-clause-refused : goal.returns-in-Idle-clause-refused
returns-in-Idle-clause-refused c = λ why. grind (arith, c.start_idle.ensures.refused why)

pub returns-in-Leading-clause-refused : goal.returns-in-Leading-clause-refused
returns-in-Leading-clause-refused c = λ why. grind (arith, c.start_leading.ensures.refused why)
