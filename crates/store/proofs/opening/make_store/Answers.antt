use Rattle.std.proofs.Common.{[], arith}
use Rattle.acceptor.specs.Storing.{first_stored}
use Rattle.store.proofs.{Saving.own_desk, Homes.first_is_sound}
use Rattle.store.proofs.opening.make_store.Goals as goal

pub returns-in-Ok-clause-ours : goal.returns-in-Ok-clause-ours
returns-in-Ok-clause-ours g c wrong clean bare =
    let other = c.examine.ensures.wrong wrong clean in
    let kept = c.in-Ok.ensures.made (c.examine.ensures.clean clean) bare in
    other.3 (own_desk c.args.home other.0 first_stored other.1 _ _ kept other.2)

pub returns-in-Ok-clause-fresh : goal.returns-in-Ok-clause-fresh
returns-in-Ok-clause-fresh g c damaged clean place bare =
    let kept = c.in-Ok.ensures.made (c.examine.ensures.clean clean) bare in
    c.examine.ensures.damaged damaged clean c.args.home first_stored []
    (first_is_sound c.args.home place (omega arith)) kept
