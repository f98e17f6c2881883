use Rattle.std.proofs.Common.{arith}
use Rattle.proposer.proofs.proposer.Proposer.start_leading.Goals as goal

pub returns-then-is_below-clause-refused : goal.returns-then-is_below-clause-refused
returns-then-is_below-clause-refused c = λ why. grind (arith, c.new_ballot.ensures.refused why)
