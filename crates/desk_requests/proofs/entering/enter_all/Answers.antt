use Rattle.std.proofs.{Common.inl, Common.inr, Common.refl, Common.rules, KnownBytes.Keeps-refl}
use Rattle.batch.proofs.{Going.adds_none, Trying.fails_by}
use Rattle.wire.specs.Ranges.{IsDesk}
use Rattle.desk_requests.proofs.entering.enter_all.Goals as goal

pub returns-then-receiver-eq0-clause-err : goal.returns-then-receiver-eq0-clause-err
returns-then-receiver-eq0-clause-err g c =
    let bad : ¬ IsDesk c.args.receiver.desk = search rules in
    inl (refl, bad, Keeps-refl _, record { written = Keeps-refl _; asked = adds_none _ _ })

pub returns-in_err-commands-clause-err : goal.returns-in_err-commands-clause-err
returns-in_err-commands-clause-err g c =
    let desk : IsDesk c.args.receiver.desk = search rules in
    fails_by _ c.from_residual.result c.in_err-commands.field-0.0 (search rules) (inr (inl (
      desk,
      inl c.in_err-commands.ensures.err,
      record { written = Keeps-refl _; asked = adds_none _ _ },
    )))

pub returns-in_err-first-clause-err : goal.returns-in_err-first-clause-err
returns-in_err-first-clause-err g c =
    let desk : IsDesk c.args.receiver.desk = search rules in
    fails_by _ c.from_residual-in_err-first.result c.in_err-first.field-0.0 (search rules)
    (inr (inl (
      desk,
      inr c.in_err-first.ensures.err,
      record { written = Keeps-refl _; asked = adds_none _ _ },
    )))
