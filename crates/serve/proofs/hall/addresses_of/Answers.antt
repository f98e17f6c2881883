use Rattle.serve.proofs.Addresses.{found_step}
use Rattle.serve.proofs.hall.addresses_of.Goals as goal

pub loop-text-preserved : goal.loop-text-preserved
loop-text-preserved g c =
    rw c.in_ok-push.ensures.items
    (found_step c.args.texts.now c.loop-text.text-index _ c.loop-text.found.items
    c.address_of.result c.loop-text-test.true c.loop-text.invariant c.address_of.ensures)
