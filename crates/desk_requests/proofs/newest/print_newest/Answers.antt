use Rattle.std.proofs.Common.{[], inl, inr, refl, rules}
use Rattle.std.proofs.KnownBytes.{Appends-nil, Keeps-refl}
use Rattle.batch.{specs.Dialing.place_of, proofs.Going.adds_none}
use Rattle.client.specs.Printing.{reply_text}
use Rattle.wire.specs.Ranges.{IsDesk}
use Rattle.desk_requests.proofs.newest.print_newest.Goals as goal

pub returns-then-receiver-eq0-clause-err : goal.returns-then-receiver-eq0-clause-err
returns-then-receiver-eq0-clause-err g c =
    let bad : ¬ IsDesk c.args.receiver.desk = search rules in
    inl (
      refl,
      bad,
      adds_none (place_of c.args.contact) (g.D.Dial.dialed c.args.dial.now),
      Keeps-refl _,
    )

pub returns-in_default-clause-err : goal.returns-in_default-clause-err
returns-in_default-clause-err g c =
    let is : IsDesk c.args.receiver.desk = search rules in
    inr (inr (
      inr refl,
      is,
      c.in-Ok.answer,
      c.in-Ok.ensures.ok,
      ([], reply_text c.in-Ok.answer, record { parts = refl; written = Appends-nil _ }),
    ))
