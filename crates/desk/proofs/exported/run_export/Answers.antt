use Rattle.std.proofs.Common.{ap, inl, inr, ◌∙◌}
use Rattle.exports.specs.Statuses.{notes_status}
use Rattle.desk.proofs.Endings.{export_not_zero}
use Rattle.desk.proofs.exported.run_export.Goals as goal

pub returns-in-Ok : goal.returns-in-Ok
returns-in-Ok g c = record {
  ends = inl (
    c.in-Ok.notes.items,
    c.tell_notes.ensures.status ∙ ap notes_status c.deref.ensures.value,
    c.in-Ok.ensures.ok,
  );
  quiet = c.tell_notes.ensures.quiet;
}

pub returns-in-Err : goal.returns-in-Err
returns-in-Err g c = record {
  ends = inr (c.in-Err.fault, c.tell_export.ensures, c.in-Err.ensures.err);
  quiet = λ zero. absurd (export_not_zero c.in-Err.fault _ c.tell_export.ensures zero);
}
