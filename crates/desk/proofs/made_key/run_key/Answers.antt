use Rattle.std.proofs.Common.{◌∙◌, ap, inl, inr, refl}
use Rattle.std.proofs.KnownBytes.{Keeps-refl}
use Rattle.desk_requests.specs.Statuses.{status_of}
use Rattle.subcommands.proofs.Ending.{not_zero}
use Rattle.desk.proofs.made_key.run_key.Goals as goal

pub returns-in-Ok : goal.returns-in-Ok
returns-in-Ok g c = record { ends = inl (refl, c.in-Ok.ensures.ok); quiet = λ zero. Keeps-refl _ }

pub returns-in-Err : goal.returns-in-Err
returns-in-Err g c =
    let status = c.tell_missing.ensures ∙ ap status_of c.fault_of_making.ensures in
    record {
      ends = inr (c.in-Err.fault, status, c.in-Err.ensures.err);
      quiet = λ zero. absurd (not_zero _ _ status zero);
    }
