use Rattle.std.proofs.Common.{arith}
use Rattle.proposer.proofs.proposer.Proposer.start_idle.Goals as goal

pub returns-clause-refused : goal.returns-clause-refused
returns-clause-refused c = λ why. grind (arith, c.new_ballot.ensures.refused why)
