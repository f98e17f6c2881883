use Rattle.serve.proofs.Addresses.{found_first}
use Rattle.serve.proofs.hall.address_of.Goals as goal

pub returns : goal.returns
returns g c a spelled =
    found_first _ c.args.text.now _ _ _ _ c.next.result (c.in-Ok.ensures.gives a spelled)
    c.next.ensures.steps
