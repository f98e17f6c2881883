use Rattle.std.proofs.Common.{arith}
use Rattle.wcif.{specs.Commands.entered, proofs.Counting.next_number, proofs.Counting.first_number}
use Rattle.wcif.proofs.setting_up.push_all_entries.Goals as goal

pub loop-index-init : goal.loop-index-init
loop-index-init c how persons kept = first_number (entered persons) c.args.commands.now.items

pub loop-index-preserved : goal.loop-index-preserved
loop-index-preserved c how persons kept =
    next_number (entered persons) c.loop-index.index c.args.commands.now.items
    c.loop-index.commands.items c.push_entered.new.commands.items
    (c.loop-index.invariant how persons kept)
    (c.in_ok-push_entered.ensures how persons kept (omega arith) (omega arith))
