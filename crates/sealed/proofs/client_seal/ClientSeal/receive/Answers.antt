use Rattle.std.proofs.Common.{Some, refl}
use Rattle.sealed.{specs.ClientSeals.ClientSealOf, proofs.Reaching.receives_more}
use Rattle.sealed.proofs.Reaching.{caller_side}
use Rattle.sealed.proofs.client_seal.ClientSeal.receive.Goals as goal

pub returns-in-Some-clause-receives : goal.returns-in-Some-clause-receives
returns-in-Some-clause-receives c =
    let was = c.self.inside in
    let old = caller_side was.key was.random was.front.items was.tunnel was.unsealed in
    let new : ClientSealOf = record old { tunnel = Some c.feed.new.self } in
    rw (← c.self.view_is) (receives_more old new c.in-Some.tunnel c.feed.new.self c.args.piece.now
    c.in_ok-handed.handed.items c.in-Some.is refl refl refl c.in_ok-handed.ensures.fed
    c.in_ok-handed.ensures.sealer)
