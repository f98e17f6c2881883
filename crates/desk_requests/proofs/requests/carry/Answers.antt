use Rattle.std.proofs.Common.{[], inl, inr, refl}
use Rattle.std.proofs.KnownBytes.{Appends-nil, Keeps-refl}
use Rattle.desk_requests.specs.Errands.{answer_text}
use Rattle.desk_requests.proofs.requests.carry.Goals as goal

pub returns-in-Err-clause-err : goal.returns-in-Err-clause-err
returns-in-Err-clause-err g c = inl (c.in-Err.ensures.err, Keeps-refl _)

pub returns-in_default-clause-err : goal.returns-in_default-clause-err
returns-in_default-clause-err g c =
    inr (
      inr refl,
      c.in-Ok.ensures.allowed,
      c.in-Ok.answer,
      c.in-Ok.ensures.ok,
      (
        [],
        answer_text c.args.errand c.in-Ok.answer,
        record { parts = refl; written = Appends-nil _ },
      ),
    )
