use Rattle.std.proofs.Common.{arith}
use Rattle.learner.proofs.Told.{told_at_behind}
use Rattle.learner.proofs.learning.on_behind.Goals as goal

pub returns-in_err-messages-2-clause-quiet : goal.returns-in_err-messages-2-clause-quiet
returns-in_err-messages-2-clause-quiet c quiet =
    absurd (told_at_behind c.args.log.now.entries c.args.proposer.now c.args.message.now
    c.in-Behind.theirs c.in-Behind.is
    (omega (arith, c.if-theirs-len-2.true, c.len-len.ensures.len)) quiet)
