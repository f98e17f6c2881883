use Rattle.std.proofs.Common.{arith}
use Rattle.proposer.proofs.proposer.Proposer.tick_idle.Goals as goal

pub returns-then-wants_ballot-clause-refused : goal.returns-then-wants_ballot-clause-refused
returns-then-wants_ballot-clause-refused c = λ why. grind (arith, c.new_ballot.ensures.refused why)
