-- The status of each fault: 1 where rounds still run, 3 where the log or the file is invalid, or
-- the one does not fit the other, 4 where a device failed, 5 where memory ran out (the project's
-- own).
use Rattle.std.specs.Prelude.{ℕ, ◌==◌, if◌then◌else◌, List, length}
use Rattle.wcif_results.specs.declared.note.ExportNote.{ExportNote}
use Rattle.exports.specs.declared.fault.{ExportsFault.ExportsFault, ResultsFault.ResultsFault}
use Rattle.exports.specs.declared.logs.LogFault.{LogFault}
use Rattle.wcif_results.specs.declared.exporting.ExportFault.TheVariants as file
use Rattle.exports.specs.declared.fault.ExportsFault.TheVariants as exports
use Rattle.exports.specs.declared.fault.ResultsFault.TheVariants as results
use Rattle.exports.specs.declared.logs.LogFault.TheVariants as log

abbrev pub log_status : LogFault → ℕ
log_status log.TooLong = 3
log_status log.CutOff = 3
log_status log.Read = 4
log_status log.NoMemory = 5

-- 1 where something is told of what was printed
abbrev pub notes_status : List ExportNote → ℕ
notes_status ns = if length ns == 0 then 0 else 1

abbrev pub export_status : ExportsFault → ℕ
export_status exports.ReadFile = 4
export_status (exports.Log f) = log_status f
export_status exports.NoRound = 3
export_status (exports.File file.TooLong) = 3
export_status (exports.File (file.NotJson line column)) = 3
export_status (exports.File file.TooDeep) = 3
export_status (exports.File (file.Refused found)) = 3
export_status (exports.File file.NoMemory) = 5
export_status (exports.Running notes) = 1
export_status exports.Write = 4
export_status exports.NoMemory = 5

abbrev pub results_status : ResultsFault → ℕ
results_status (results.Log f) = log_status f
results_status results.Write = 4
results_status results.NoMemory = 5
