use Rattle.std.proofs.Common.{Some, refl}
use Rattle.sealed.specs.{declared.callers.Caller.TheVariants.Visitor, ServerSeals.ServerSealOf}
use Rattle.sealed.specs.declared.callers.StreamRefusal.TheVariants.{Unsealed}
use Rattle.sealed.proofs.{Sending.keeps_passed, Sending.keeps_same, Standing.side_of}
use Rattle.sealed.proofs.server_seal.ServerSeal.pass.Goals as goal

pub returns-then-not-shows-clause-sends : goal.returns-then-not-shows-clause-sends
returns-then-not-shows-clause-sends c =
    let was = c.self.inside in
    let old = side_of was.doors was.random was.front.items was.passing was.trial was.refusal in
    let new : ServerSealOf = record old { refusal = Some Unsealed } in
    rw (← c.self.view_is) (keeps_same old new refl refl)

pub returns-clause-sends : goal.returns-clause-sends
returns-clause-sends c =
    let was = c.self.inside in
    let old = side_of was.doors was.random was.front.items was.passing was.trial was.refusal in
    let new : ServerSealOf = record old { passing = Some Visitor } in
    rw (← c.self.view_is) (keeps_passed old new refl refl)
