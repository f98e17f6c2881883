use Rattle.std.proofs.Common.{inl, inr}
use Rattle.batch.proofs.Going.{adds_none}
use Rattle.desk_requests.proofs.requests.answered.Goals as goal

pub returns-in-Err-clause-err : goal.returns-in-Err-clause-err
returns-in-Err-clause-err g c = inl (c.in-Err.ensures.err.0, c.in-Err.ensures.err.1, adds_none _ _)

pub returns-in-Ok-ask_over-clause-ok : goal.returns-in-Ok-ask_over-clause-ok
returns-in-Ok-ask_over-clause-ok g c = (
  rw c.in-Ok.ensures.frame at c.in-Ok-ask_over.ensures.answered,
  rw c.in-Ok.ensures.frame at c.in-Ok-ask_over.ensures.told,
)

pub returns-clause-err : goal.returns-clause-err
returns-clause-err g c =
    inr (
      c.in-Ok.ensures.allowed,
      c.in-Err-ask_over.fault,
      c.from.ensures,
      c.in-Err-ask_over.ensures.failed,
      rw c.in-Ok.ensures.frame at c.in-Err-ask_over.ensures.told,
    )
