use Rattle.std.proofs.{Common.inl, Common.inr, Common.refl, KnownBytes.Keeps-refl}
use Rattle.desk.proofs.Endings.{results_not_zero}
use Rattle.desk.proofs.exported.run_results.Goals as goal

pub returns-in-Ok : goal.returns-in-Ok
returns-in-Ok g c = record { ends = inl (refl, c.in-Ok.ensures.ok); quiet = λ zero. Keeps-refl _ }

pub returns-in-Err : goal.returns-in-Err
returns-in-Err g c = record {
  ends = inr (c.in-Err.fault, c.tell_results.ensures, c.in-Err.ensures.err);
  quiet = λ zero. absurd (results_not_zero c.in-Err.fault _ c.tell_results.ensures zero);
}
