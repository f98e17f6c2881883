use Rattle.std.proofs.Common.{refl, Some}
use Rattle.sealed.{specs.ServerSeals.ServerSealOf, proofs.Standing.stands_tried}
use Rattle.sealed.proofs.Standing.{side_of}
use Rattle.sealed.proofs.server_seal.ServerSeal.take.Goals as goal

pub returns-in-Some-clause-receives : goal.returns-in-Some-clause-receives
returns-in-Some-clause-receives c =
    let was = c.self.inside in
    let old = side_of was.doors was.random was.front.items was.passing was.trial was.refusal in
    let new : ServerSealOf = record old { trial = Some c.feed.new.self } in
    let unbroken = rw (← c.self.view_is) at c.requires.open in
    rw (← c.self.view_is) (λ came handed h.
    stands_tried old new c.in-Some.trial c.feed.new.self came handed c.args.piece.now
    c.in_ok-handed.handed.items unbroken unbroken c.in-Some.is refl refl refl
    c.in_ok-handed.ensures.same c.in_ok-handed.ensures.tries h)
