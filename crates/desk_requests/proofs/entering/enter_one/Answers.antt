use Rattle.std.proofs.Common.{◌≡◌, inl, inr, refl, rules}
use Rattle.std.proofs.KnownBytes.{Keeps-refl}
use Rattle.batch.proofs.{Going.adds_none, Trying.fails_by}
use Rattle.wire.specs.Ranges.{IsDesk}
use Rattle.desk_requests.specs.Statuses.{fault_of_batch}
use Rattle.desk_requests.proofs.entering.enter_one.Goals as goal

pub returns-then-receiver-eq0-clause-err : goal.returns-then-receiver-eq0-clause-err
returns-then-receiver-eq0-clause-err g c =
    let bad : ¬ IsDesk c.args.receiver.desk = search rules in
    inl (inl (refl, bad), Keeps-refl _, adds_none _ _)

pub returns-in_err-id-clause-err : goal.returns-in_err-id-clause-err
returns-in_err-id-clause-err g c =
    fails_by _ c.from_residual.result c.in_err-id.field-0.0 (search rules)
    (inl (inr c.in_err-id.ensures.err, Keeps-refl _, adds_none _ _))

pub returns-clause-err : goal.returns-clause-err
returns-clause-err g c =
    let desk : IsDesk c.args.receiver.desk = search rules in
    let is : c.from.result ≡ fault_of_batch c.in-Err.fault = search rules in
    inr (inl (
      desk,
      record {
        id = c.in_ok-id.id;
        why = c.in-Err.fault;
        first_id = c.in_ok-id.ensures.id;
        is = is;
        cause = rw c.as_bytes-text.ensures.value at c.in-Err.ensures.cause;
        asked = rw c.as_bytes-text.ensures.value at c.in-Err.ensures.err;
      },
      Keeps-refl _,
    ))
