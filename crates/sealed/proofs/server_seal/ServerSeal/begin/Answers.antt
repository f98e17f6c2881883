use Rattle.std.proofs.{Common.ℕ, Common.List, Common.refl, Common.subst, lemmas.List.take_rest}
use Rattle.sealed.specs.{ServerSeals.ServerSealOf, model.Steps.OpensAs, model.Steps.Passes}
use Rattle.sealed.proofs.{Sending.keeps_same, Standing.stands_opened, Standing.stands_passed}
use Rattle.sealed.proofs.Standing.{side_of}
use Rattle.sealed.proofs.server_seal.ServerSeal.begin.Goals as goal

pub returns-in_ok-passed-in-Unsealed-clause-receives :
    goal.returns-in_ok-passed-in-Unsealed-clause-receives
returns-in_ok-passed-in-Unsealed-clause-receives c =
    let was = c.self.inside in
    let piece = c.args.piece.now in
    let added = c.hold-added.result in
    let more = c.in_ok-passed-in-Unsealed.passed.items in
    let new = c.pass.new.self in
    let old = side_of was.doors was.random was.front.items was.passing was.trial was.refusal in
    let mid : ServerSealOf = record old { held = c.hold-added.new.held.items } in
    let unbroken = rw (← c.self.view_is) at c.requires.open in
    let untried = rw (← c.self.view_is) at c.requires.untried in
    let unknown = rw (← c.self.view_is) at c.requires.unknown in
    let front = rw c.deref.ensures.value at c.in-Unsealed.ensures in
    let passes = subst (λ (s : List ℕ). Passes s mid new more) (take_rest piece added)
    c.in_ok-passed-in-Unsealed.ensures.passes in
    rw (← c.self.view_is) (λ came handed h.
    stands_passed old mid new came handed piece more added unbroken untried unknown unbroken
    untried unknown refl c.hold-added.ensures.held front passes h)

pub returns-in_ok-opened-in-Sealed-clause-receives :
    goal.returns-in_ok-opened-in-Sealed-clause-receives
returns-in_ok-opened-in-Sealed-clause-receives c =
    let was = c.self.inside in
    let piece = c.args.piece.now in
    let added = c.hold-added.result in
    let client = c.in-Sealed.random in
    let more = c.in_ok-opened-in-Sealed.opened.items in
    let new = c.open.new.self in
    let old = side_of was.doors was.random was.front.items was.passing was.trial was.refusal in
    let mid : ServerSealOf = record old { held = c.hold-added.new.held.items } in
    let unbroken = rw (← c.self.view_is) at c.requires.open in
    let untried = rw (← c.self.view_is) at c.requires.untried in
    let unknown = rw (← c.self.view_is) at c.requires.unknown in
    let front = rw c.deref.ensures.value at c.in-Sealed.ensures in
    let opens = subst (λ (s : List ℕ). OpensAs mid.doors client s mid new more)
    (take_rest piece added) c.in_ok-opened-in-Sealed.ensures.opens in
    rw (← c.self.view_is) (λ came handed h.
    stands_opened old mid new came handed piece client more added unbroken untried unknown
    unbroken refl c.hold-added.ensures.held front.0 front.1 opens h)

pub returns-in_ok-passed-in-Unsealed-clause-sends :
    goal.returns-in_ok-passed-in-Unsealed-clause-sends
returns-in_ok-passed-in-Unsealed-clause-sends c =
    let was = c.self.inside in
    let old = side_of was.doors was.random was.front.items was.passing was.trial was.refusal in
    let mid : ServerSealOf = record old { held = c.hold-added.new.held.items } in
    rw (← c.self.view_is) (λ given sent h.
    c.in_ok-passed-in-Unsealed.ensures.sends given sent (keeps_same old mid refl refl given sent h))

pub returns-in_ok-opened-in-Sealed-clause-sends : goal.returns-in_ok-opened-in-Sealed-clause-sends
returns-in_ok-opened-in-Sealed-clause-sends c =
    let was = c.self.inside in
    let old = side_of was.doors was.random was.front.items was.passing was.trial was.refusal in
    let mid : ServerSealOf = record old { held = c.hold-added.new.held.items } in
    rw (← c.self.view_is) (λ given sent h.
    c.in_ok-opened-in-Sealed.ensures.sends given sent (keeps_same old mid refl refl given sent h))
