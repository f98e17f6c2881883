use Rattle.commands.proofs.CardSteps.{all_noted}
use Rattle.commands.proofs.solutions.note_row.Goals as goal

pub returns : goal.returns
returns c =
    all_noted c.args.now.now c.args.row.now c.loop-at.row c.loop-at.at c.loop-at-test.false
    c.loop-at.invariant.noted c.loop-at.invariant.others
