use Rattle.std.proofs.Common.{arith}
use Rattle.wcif.specs.Commands.{registered}
use Rattle.wcif.proofs.Counting.{next_number, first_number}
use Rattle.wcif.proofs.setting_up.push_registrations.Goals as goal

pub loop-index-init : goal.loop-index-init
loop-index-init c persons kept =
    first_number (registered c.args.how persons) c.args.commands.now.items

pub loop-index-preserved : goal.loop-index-preserved
loop-index-preserved c persons kept =
    next_number (registered c.args.how persons) c.loop-index.index c.args.commands.now.items
    c.loop-index.commands.items c.push_registered.new.commands.items
    (c.loop-index.invariant persons kept)
    (c.in_ok-push_registered.ensures persons kept (omega arith) (omega arith))
