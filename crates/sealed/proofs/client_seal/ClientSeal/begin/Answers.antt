use Rattle.std.proofs.Common.{ℕ, List, true, refl, sym, subst}
use Rattle.std.proofs.lemmas.List.{take_rest}
use Rattle.sealed.specs.{ClientSeals.ClientSealOf, ClientSeals.Receives, model.Opening.OpensTo}
use Rattle.sealed.proofs.Reaching.{receives_first, receives_unsealed, caller_side}
use Rattle.sealed.proofs.client_seal.ClientSeal.begin.Goals as goal

pub returns-in-Unsealed-clause-receives : goal.returns-in-Unsealed-clause-receives
returns-in-Unsealed-clause-receives c =
    let was = c.self.inside in
    let piece = c.args.piece.now in
    let old = caller_side was.key was.random was.front.items was.tunnel was.unsealed in
    let mid : ClientSealOf = record old { held = c.hold-added.new.held.items } in
    let new : ClientSealOf = record mid { unsealed = true } in
    let unknown = rw (← c.self.view_is) at c.requires.unknown in
    let closed = rw (← c.self.view_is) at c.requires.closed in
    let front = rw c.deref.ensures.value at c.in-Unsealed.ensures in
    rw (← c.self.view_is)
    (subst (λ (s : List ℕ). Receives piece old new s) (sym c.new-in-Unsealed.ensures.items)
    (receives_unsealed old mid new piece c.hold-added.result closed unknown closed refl refl refl
    c.hold-added.ensures.held front))

pub returns-in_ok-handed-in-Sealed-clause-receives :
    goal.returns-in_ok-handed-in-Sealed-clause-receives
returns-in_ok-handed-in-Sealed-clause-receives c =
    let was = c.self.inside in
    let piece = c.args.piece.now in
    let added = c.hold-added.result in
    let server = c.in-Sealed.random in
    let new = c.open.new.self in
    let more = c.in_ok-handed-in-Sealed.handed.items in
    let old = caller_side was.key was.random was.front.items was.tunnel was.unsealed in
    let mid : ClientSealOf = record old { held = c.hold-added.new.held.items } in
    let unknown = rw (← c.self.view_is) at c.requires.unknown in
    let closed = rw (← c.self.view_is) at c.requires.closed in
    let front = rw c.deref.ensures.value at c.in-Sealed.ensures in
    let opens = subst (λ (s : List ℕ). OpensTo server s mid new more) (take_rest piece added)
    c.in_ok-handed-in-Sealed.ensures.opens in
    rw (← c.self.view_is)
    (receives_first old mid new piece server more added closed unknown refl refl
    c.hold-added.ensures.held front.0 front.1 opens)
