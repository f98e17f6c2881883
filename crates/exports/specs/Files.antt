-- What is printed of a competition's file and a log, and what its faults leave (the project's own).
use Rattle.std.specs.Prelude.{◌≡◌, ℕ, Bool, true, false, not, ◌&&◌, List, [], ◌∷◌, ◌++◌, Option}
use Rattle.std.specs.Io.KnownBytes.{Appends, Keeps}
use Rattle.commands.specs.History.{History}
use Rattle.lines.specs.Bytes.{AppendsPart, HasLeft}
use Rattle.texts.specs.declared.command.Command.{Command}
use Rattle.wcif_results.specs.Files.{ExportFails, Exports, HasNotes}
use Rattle.wcif_results.specs.{Notes.any_runs, declared.note.ExportNote.ExportNote}
use Rattle.wcif_results.specs.declared.exporting.ExportFault.{ExportFault}
use Rattle.exports.specs.Logs.{LogFails, ReadsMeet, opens_any}
use Rattle.exports.specs.declared.fault.ExportsFault.{ExportsFault}
use Rattle.exports.specs.declared.fault.ExportsFault.TheVariants as fault

-- the file with the results, and a line feed, and what is told of it: rounds that still run are in
-- it only where that is asked for
abbrev pub IsFilledLine : Bool → List Command → (bytes line : List ℕ) → List ExportNote → Type 0
IsFilledLine running cs bytes line notes =
    (text : List ℕ) × (opens_any cs ≡ true) × Exports cs bytes text × HasNotes cs bytes notes
    × ((any_runs notes && not running) ≡ false) × (line ≡ text ++ 10 ∷ [])

-- there is a file with the results, rounds still run, and that is not asked for
abbrev pub StillRuns : Bool → List Command → (bytes : List ℕ) → List ExportNote → Type 0
StillRuns running cs bytes notes =
    (text : List ℕ) × Exports cs bytes text × HasNotes cs bytes notes
    × ((any_runs notes && not running) ≡ true)

-- why there is none
abbrev pub IsUnfilled : (running : Bool) → List Command → (bytes : List ℕ) → ExportsFault → Type 0
IsUnfilled running cs bytes fault.NoRound = opens_any cs ≡ false
IsUnfilled running cs bytes (fault.File f) = (opens_any cs ≡ true) × ExportFails cs bytes f
IsUnfilled running cs bytes (fault.Running notes) = StillRuns running cs bytes notes.items
IsUnfilled running cs bytes fault.NoMemory = Unit {0}
IsUnfilled running cs bytes _ = ⊥

-- the line of the bytes that the one reader has and of the meet that the other has
abbrev pub MakesLine : Bool → (file log : Option (List ℕ)) → (line : List ℕ) → List ExportNote
    → Type 0
MakesLine running file log line notes =
    (bytes : List ℕ) × (meet : History) × HasLeft file bytes × ReadsMeet log meet
    × IsFilledLine running meet.accepted bytes line notes

-- it was written
abbrev pub PrintsExport : Bool → List ExportNote → (file log old new : Option (List ℕ)) → Type 0
PrintsExport running notes file log old new =
    (line : List ℕ) × MakesLine running file log line notes × Appends old new line

-- the log was read, and the file does not take its results
abbrev pub TakesNone : ExportFault → (file log : Option (List ℕ)) → Type 0
TakesNone f file log =
    (bytes : List ℕ) × (meet : History) × HasLeft file bytes × ReadsMeet log meet
    × (opens_any meet.accepted ≡ true) × ExportFails meet.accepted bytes f

-- the log was read, and rounds of it still run
abbrev pub Runs : Bool → (file log : Option (List ℕ)) → List ExportNote → Type 0
Runs running file log notes =
    (bytes : List ℕ) × (meet : History) × HasLeft file bytes × ReadsMeet log meet
    × StillRuns running meet.accepted bytes notes

-- what each fault says, and leaves: nothing is written but where a write fails
abbrev pub FailsExport : ExportsFault → Bool → (file log old new : Option (List ℕ)) → Type 0
FailsExport fault.ReadFile running file log old new = Keeps old new
FailsExport (fault.Log f) running file log old new = LogFails log f × Keeps old new
FailsExport fault.NoRound running file log old new =
    ((meet : History) × ReadsMeet log meet × (opens_any meet.accepted ≡ false)) × Keeps old new
FailsExport (fault.File f) running file log old new = TakesNone f file log × Keeps old new
FailsExport (fault.Running notes) running file log old new =
    Runs running file log notes.items × Keeps old new
FailsExport fault.Write running file log old new =
    (line : List ℕ) × (notes : List ExportNote) × MakesLine running file log line notes
    × AppendsPart old new line
FailsExport fault.NoMemory running file log old new = Keeps old new
