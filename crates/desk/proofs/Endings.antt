-- How tasks end at a fault.
use Rattle.std.proofs.Common.{◌≡◌, ℕ, List, Option, arith}
use Rattle.desk.specs.Statuses.{PrintsAtMost}
use Rattle.exports.specs.{Statuses.export_status, imports.Printing.status_of as status_of_import}
use Rattle.exports.specs.{Statuses.log_status, declared.logs.LogFault.LogFault as ExportsLogFault}
use Rattle.exports.specs.{Statuses.results_status, declared.imports.fault.ImportsFault.ImportsFault}
use Rattle.exports.specs.declared.fault.{ExportsFault.ExportsFault, ResultsFault.ResultsFault}
use Rattle.sqlite.specs.Recovery.{Image}
use Rattle.desk_file.specs.stored_log.StoredLogs.{FailsLog, PrintsLogPart}
use Rattle.desk_file.specs.declared.stored_log.fault.StoredLogFault.{StoredLogFault}
use Rattle.exports.specs.declared.fault.ExportsFault.TheVariants as exports
use Rattle.exports.specs.declared.fault.ResultsFault.TheVariants as results
use Rattle.exports.specs.declared.logs.LogFault.TheVariants as log
use Rattle.exports.specs.declared.imports.fault.ImportsFault.TheVariants as imported
use Rattle.desk_file.specs.declared.stored_log.fault.StoredLogFault.TheVariants as stored
use Rattle.wcif.specs.declared.file.FileFault.TheVariants as file
use Rattle.wcif_results.specs.declared.exporting.ExportFault.TheVariants as export

-- what was written of an archive at a fault
pub prints_at_most : {K : Type 0} (e : StoredLogFault) (IsHonest : K → Type 0) (files : Image)
    (old new : Option (List ℕ))
    → FailsLog e IsHonest files old new → PrintsLogPart old new → PrintsAtMost e old new
prints_at_most stored.Damaged IsHonest files old new fails part = fails
prints_at_most stored.Device IsHonest files old new fails part = fails
prints_at_most _ IsHonest files old new fails part = part

-- no fault ends with status 0
pub import_not_zero : (f : ImportsFault) (status : ℕ) → status ≡ status_of_import f → status ≡ 0 → ⊥
import_not_zero imported.Read status is zero = omega (arith, is, zero)
import_not_zero (imported.File file.NoMemory) status is zero = omega (arith, is, zero)
import_not_zero (imported.File _) status is zero = omega (arith, is, zero)
import_not_zero _ status is zero = omega (arith, is, zero)

log_not_zero : (f : ExportsLogFault) (status : ℕ) → status ≡ log_status f → status ≡ 0 → ⊥
log_not_zero log.TooLong status is zero = omega (arith, is, zero)
log_not_zero _ status is zero = omega (arith, is, zero)

pub export_not_zero : (f : ExportsFault) (status : ℕ) → status ≡ export_status f → status ≡ 0 → ⊥
export_not_zero (exports.Log f) status is zero = log_not_zero f status is zero
export_not_zero (exports.File export.NoMemory) status is zero = omega (arith, is, zero)
export_not_zero (exports.File _) status is zero = omega (arith, is, zero)
export_not_zero _ status is zero = omega (arith, is, zero)

pub results_not_zero : (f : ResultsFault) (status : ℕ) → status ≡ results_status f → status ≡ 0 → ⊥
results_not_zero (results.Log f) status is zero = log_not_zero f status is zero
results_not_zero _ status is zero = omega (arith, is, zero)
