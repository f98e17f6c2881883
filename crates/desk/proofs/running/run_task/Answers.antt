use Rattle.std.proofs.Common.{inl, inr, refl, ap, ◌∙◌}
use Rattle.std.proofs.KnownBytes.{Keeps-refl}
use Rattle.desk_requests.specs.Statuses.{status_of}
use Rattle.subcommands.proofs.Ending.{not_zero}
use Rattle.desk.proofs.Endings.{import_not_zero, prints_at_most}
use Rattle.desk.proofs.running.run_task.Goals as goal

pub returns-in-Err : goal.returns-in-Err
returns-in-Err g c =
    rw c.in-Import.is (
      Keeps-refl _,
      inr (c.in-Err.fault, c.tell_import.ensures, c.in-Err.ensures.err),
      λ zero. absurd (import_not_zero c.in-Err.fault _ c.tell_import.ensures zero),
    )

pub returns-in-Export : goal.returns-in-Export
returns-in-Export g c = rw c.in-Export.is (c.run_export.ensures.ends, c.run_export.ensures.quiet)

pub returns-in-Results : goal.returns-in-Results
returns-in-Results g c =
    rw c.in-Results.is (c.run_results.ensures.ends, c.run_results.ensures.quiet)

pub returns-in-HallFile : goal.returns-in-HallFile
returns-in-HallFile g c =
    rw c.in-HallFile.is (Keeps-refl _, c.run_hall_file.ensures.ends, c.run_hall_file.ensures.quiet)

pub returns-in-Key : goal.returns-in-Key
returns-in-Key g c = rw c.in-Key.is (Keeps-refl _, c.run_key.ensures.ends, c.run_key.ensures.quiet)

pub returns-in-Carry : goal.returns-in-Carry
returns-in-Carry g c =
    rw c.in-Carry.is (Keeps-refl _, c.carry_at.ensures.ends, c.carry_at.ensures.quiet)

pub returns-in-Newest : goal.returns-in-Newest
returns-in-Newest g c =
    rw c.in-Newest.is (Keeps-refl _, c.newest_at.ensures.ends, c.newest_at.ensures.quiet)

pub returns-in-Enter : goal.returns-in-Enter
returns-in-Enter g c = rw c.in-Enter.is (Keeps-refl _, c.enter_words_at.ensures)

pub returns-in-EnterLines : goal.returns-in-EnterLines
returns-in-EnterLines g c = rw c.in-EnterLines.is c.enter_lines_at.ensures

pub returns-in-Ok-write_stored_log : goal.returns-in-Ok-write_stored_log
returns-in-Ok-write_stored_log g c =
    rw c.in-Log.is (
      Keeps-refl _,
      inl (refl, c.in-Ok-write_stored_log.ensures.ok),
      λ zero. Keeps-refl _,
    )

pub returns-in-Err-write_stored_log : goal.returns-in-Err-write_stored_log
returns-in-Err-write_stored_log g c =
    let fault = c.in-Err-write_stored_log.fault in
    let status = c.tell_log.ensures ∙ ap status_of c.fault_of_log.ensures in
    rw c.in-Log.is (
      Keeps-refl _,
      inr (
        fault,
        status,
        prints_at_most fault _ _ _ _ c.in-Err-write_stored_log.ensures.fails
            c.in-Err-write_stored_log.ensures.err,
      ),
      λ zero. absurd (not_zero _ _ status zero),
    )

pub returns-in-CopyLog : goal.returns-in-CopyLog
returns-in-CopyLog g c =
    rw c.in-CopyLog.is (Keeps-refl _, c.copy_log_at.ensures.ends, c.copy_log_at.ensures.quiet)

pub returns-in-ServeHall : goal.returns-in-ServeHall
returns-in-ServeHall g c =
    rw c.in-ServeHall.is
    (Keeps-refl _, c.run_hall_service.ensures.ends, c.run_hall_service.ensures.quiet)
