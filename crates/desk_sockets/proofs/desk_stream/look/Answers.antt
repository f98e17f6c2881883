use Rattle.std.proofs.Common.{refl, [], ◌∷◌}
use Rattle.polled.proofs.Telling.{Tells-nil}
use Rattle.desk_sockets.{specs.Wires.Listened, proofs.Driving.both, proofs.Driving.quiet}
use Rattle.desk_sockets.proofs.desk_stream.look.Goals as goal

pub returns-in-Closed-clause-went : goal.returns-in-Closed-clause-went
returns-in-Closed-clause-went g c =
    rw (← c.in-Closed.ensures) ([], (refl, refl), λ addresses. quiet (Tells-nil _))

pub returns-in-Opening-clause-went : goal.returns-in-Opening-clause-went
returns-in-Opening-clause-went g c =
    rw (← c.in-Opening.ensures) (c.look_whether_open.ensures.went c.args.now)

pub returns-in-Open-clause-went : goal.returns-in-Open-clause-went
returns-in-Open-clause-went g c =
    let heard = c.hear-heard.result in
    rw (← c.in-Open.ensures) (
      Listened heard.outcome ∷ [],
      (heard.outcome, refl, c.deref.result.now, c.take.ensures.hears),
      λ addresses. both (quiet c.hear-heard.ensures.told) (c.take.ensures.went addresses),
    )
