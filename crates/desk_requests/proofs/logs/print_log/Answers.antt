use Rattle.std.proofs.{Common.inl, Common.refl, Common.rules, KnownBytes.Keeps-refl}
use Rattle.batch.{specs.Dialing.place_of, proofs.Going.adds_none}
use Rattle.wire.specs.Ranges.{IsDesk}
use Rattle.desk_requests.proofs.logs.print_log.Goals as goal

pub returns-then-receiver-eq0-clause-err : goal.returns-then-receiver-eq0-clause-err
returns-then-receiver-eq0-clause-err g c =
    let bad : ¬ IsDesk c.args.receiver.desk = search rules in
    inl (
      refl,
      bad,
      adds_none (place_of c.args.contact) (g.D.Dial.dialed c.args.dial.now),
      Keeps-refl _,
    )
