use Rattle.std.proofs.Common.{inl, inr}
use Rattle.std.proofs.KnownBytes.{Keeps-refl}
use Rattle.replayer.proofs.running.run_arguments.Goals as goal

pub returns-in-Err : goal.returns-in-Err
returns-in-Err g c = inr (Keeps-refl _, c.tell_parse_error.ensures)

pub returns : goal.returns
returns g c =
    inl (
      c.in-Some.task,
      (c.in-Ok.ensures.0, rw c.in-Ok.ensures.1 at c.in-Some.ensures),
      c.run_replay.ensures,
    )
