-- What an exit status says of the run (the project's own).
use Rattle.std.specs.Prelude.{◌≡◌, ◌⊎◌, ℕ, Bool, true, false, List, Option, None, map, option_map}
use Rattle.std.specs.{Borrow.Bor, Io.KnownBytes.Keeps}
use Rattle.clap.specs.Words.{Text}
use Rattle.lines.specs.{Bytes.HasLeft, Bytes.Sides, declared.fault.RunFault.RunFault}
use Rattle.desk_choice.specs.{Files.IsOfFile, Keys.key_file_of, Keys.naming}
use Rattle.desk_choice.specs.Printing.{FailsToPrint, PrintsHall}
use Rattle.hall.specs.Halls.{Run as HallRun, Runs, RunFails, run_of as hall_run_of}
use Rattle.hall_file.specs.Halls.{Says, texts_of}
use Rattle.hall_file.specs.declared.{hall_file.HallFile.HallFile, service.Service.Service}
use Rattle.batch.specs.Dialing.{Dialed}
use Rattle.exports.specs.imports.Printing.{FailsImport, PrintsImport, status_of as status_of_import}
use Rattle.exports.specs.{declared.imports.fault.ImportsFault.ImportsFault, Files.FailsExport}
use Rattle.exports.specs.{Files.PrintsExport, Results.FailsResults, Results.PrintsResults}
use Rattle.exports.specs.Statuses.{export_status, notes_status, results_status}
use Rattle.exports.specs.declared.fault.{ExportsFault.ExportsFault, ResultsFault.ResultsFault}
use Rattle.wcif.specs.declared.options.Options.{Options}
use Rattle.wcif_results.specs.declared.note.ExportNote.{ExportNote}
use Rattle.replay.specs.Apart.{Told}
use Rattle.standings.specs.declared.forms.Form.{Form}
use Rattle.desk_file.specs.stored_log.StoredLogs.{PrintsLog, PrintsLogPart}
use Rattle.desk_file.specs.declared.stored_log.fault.StoredLogFault.{StoredLogFault}
use Rattle.serve.specs.Printing.{Prints, PrintsAt, output}
use Rattle.serve.specs.declared.fault.ServeFault.{ServeFault}
use Rattle.arguments.specs.{Asking.Asks, declared.places.Place.Place}
use Rattle.desk_requests.specs.{Statuses.status_of, declared.fault.DeskFault.DeskFault}
use Rattle.fault_lines.specs.Statuses.{EndsTask, RunsNothing, status_of_run}
use Rattle.arguments.specs.declared.task.{HallService.HallService, Task.Task}
use Rattle.desk.specs.Keys.{EndsKey}
use Rattle.subcommands.specs.{Begun.AsksFirst, Folders.EndsFolders, Places.NamesDesk, Places.Reach}
use Rattle.subcommands.specs.Asking.{EndsCarry, EndsCopyLog, EndsNewest, log_form}
use Rattle.subcommands.specs.{Entering.EndsLines, Entering.EndsWords, Standings.AreFew}
use Rattle.subcommands.specs.{Services.IsEntryKeyFile, Services.IsServiceOf, Standings.EndsStatus}
use Rattle.lines.specs.declared.fault.RunFault.TheVariants as run
use Rattle.standings.specs.declared.forms.Form.TheVariants as form
use Rattle.desk_file.specs.declared.stored_log.fault.StoredLogFault.TheVariants as stored
use Rattle.serve.specs.declared.fault.ServeFault.TheVariants as serve
use Rattle.desk_requests.specs.declared.fault.DeskFault.TheVariants as fault
use Rattle.arguments.specs.declared.places.DeskPlaces.TheVariants as desks
use Rattle.arguments.specs.declared.task.Task.TheVariants as task

-- the fault of a desk that serves
abbrev pub fault_of_serve : ServeFault → DeskFault
fault_of_serve serve.BadCount = fault.Run run.BadCount
fault_of_serve serve.BadDesk = fault.BadDesk
fault_of_serve serve.SameAddresses = fault.SameAddresses
fault_of_serve serve.NoHallKey = fault.NoHallKey
fault_of_serve (serve.KeyFile e) = fault.KeyFile e
fault_of_serve serve.SameKeys = fault.SameKeys
fault_of_serve serve.NoStore = fault.NoStore
fault_of_serve serve.StoreThere = fault.StoreThere
fault_of_serve (serve.UnknownHost desk) = fault.UnknownHost desk
fault_of_serve serve.WrongDesk = fault.WrongDesk
fault_of_serve serve.Damaged = fault.DamagedStore
fault_of_serve serve.Device = fault.StoreDevice
fault_of_serve serve.CannotListen = fault.CannotListen
fault_of_serve serve.Down = fault.StoreDown
fault_of_serve serve.Write = fault.Run run.Write
fault_of_serve serve.NoMemory = fault.Run run.NoMemory

-- the fault of a stored log
abbrev pub fault_of_log : StoredLogFault → DeskFault
fault_of_log stored.Damaged = fault.DamagedStore
fault_of_log stored.Device = fault.StoreDevice
fault_of_log stored.Write = fault.Run run.Write
fault_of_log stored.NoMemory = fault.Run run.NoMemory

-- what was written of a log at each fault: nothing where the file is damaged or cannot be read
abbrev pub PrintsAtMost : StoredLogFault → Option (List ℕ) → Option (List ℕ) → Type 0
PrintsAtMost stored.Damaged old new = Keeps old new
PrintsAtMost stored.Device old new = Keeps old new
PrintsAtMost stored.Write old new = PrintsLogPart old new
PrintsAtMost stored.NoMemory old new = PrintsLogPart old new

-- a log was written, or a part of it
abbrev pub EndsLog : ℕ → Option (List ℕ) → Option (List ℕ) → Type 0
EndsLog status old new =
    ((status ≡ 0) × PrintsLog old new)
    ⊎ ((e : StoredLogFault) × (status ≡ status_of (fault_of_log e)) × PrintsAtMost e old new)

-- a competition's commands were printed, or not
abbrev pub EndsImport : ℕ → Options → Option (List ℕ) → Option (List ℕ) → Type 0
EndsImport status options old new =
    ((status ≡ 0) × PrintsImport options None old new)
    ⊎ ((f : ImportsFault) × (status ≡ status_of_import f) × FailsImport f options None old new)

-- a competition's file was printed with the results of a log, or not
abbrev pub EndsExport : ℕ → (running : Bool) → (had old new : Option (List ℕ)) → Type 0
EndsExport status running had old new =
    ((notes : List ExportNote) × (status ≡ notes_status notes)
    × PrintsExport running notes None had old new)
    ⊎ ((f : ExportsFault) × (status ≡ export_status f) × FailsExport f running None had old new)

-- the results of a log were printed as JSON, or not
abbrev pub EndsResults : ℕ → (had old new : Option (List ℕ)) → Type 0
EndsResults status had old new =
    ((status ≡ 0) × PrintsResults had old new)
    ⊎ ((f : ResultsFault) × (status ≡ results_status f) × FailsResults f had old new)

-- the file that describes a hall was printed, or not; or it was made with keys and folders, or not
abbrev pub EndsHallFile : (keys : Bool) → ℕ → (hall : ℕ) → List Text
    → (old new : Option (List ℕ)) → Type 0
EndsHallFile true status hall texts old new = EndsFolders status old new
EndsHallFile false status hall texts old new =
    ((status ≡ 0) × PrintsHall hall texts old new)
    ⊎ ((f : DeskFault) × (status ≡ status_of f) × FailsToPrint f hall texts old new)

-- what became of connections to desks before a run and afterwards, where that is known
pub record Calls : Type 0 where
  pub old : Option (List Dialed)
  pub new : Option (List Dialed)

abbrev pub calls : {D : Type 0} → (D → Option (List Dialed)) → (before after : D) → Calls
calls dialed before after = record { old = dialed before; new = dialed after }

-- with what the fault stream had before the run
abbrev pub reach_of : Calls → Told → Reach
reach_of c t = record { dialed = c.old; dialed_then = c.new; told = t.before }

-- a script was run to its end, or to a fault
abbrev pub EndsHall : ℕ → HallRun → Type 0
EndsHall status r =
    ((status ≡ 0) × Runs r) ⊎ ((e : RunFault) × (status ≡ status_of_run e) × RunFails e r)

-- a desk served and printed both lines, or it ended by a fault
abbrev pub EndsServe : ℕ → Service → Option (List ℕ) → Option (List ℕ) → Type 0
EndsServe status s old new =
    ((status ≡ 0) × Prints s (output old new))
    ⊎ ((e : ServeFault) × (status ≡ status_of (fault_of_serve e)) × PrintsAt e s (output old new))

-- the file gives no hall, or memory ran out, and nothing was printed
abbrev pub EndsUnserved : ℕ → Calls → Option (List ℕ) → Option (List ℕ) → Type 0
EndsUnserved status c old new =
    (f : DeskFault) × (status ≡ status_of f) × IsOfFile f × (c.old ≡ c.new) × Keeps old new

-- Or the desk of its hall served, or ended by a fault. Where its store was to be made, the hall's
-- desks may have been asked first; and if it did not serve, then one of them had a command, or none
-- answered in a hall that is not new.
abbrev pub EndsServeHall : ℕ → Bor (List ℕ) → HallService → Calls → Option (List ℕ)
    → Option (List ℕ) → Type 0
EndsServeHall status file wanted c old new =
    EndsUnserved status c old new ⊎ ((hall : HallFile) × (bytes : List ℕ) × Says bytes hall
    × (((status ≡ 3) × AsksFirst file wanted hall (texts_of hall) false c.old c.new × Keeps old new)
    ⊎ ((s : Service) × (entry_key : Option (List ℕ))
    × IsEntryKeyFile wanted.options.entry_key file.now entry_key
    × IsServiceOf s hall.hall wanted.options (key_file_of (naming file wanted.options.key) hall)
    entry_key (texts_of hall) × AsksFirst file wanted hall (texts_of hall) true c.old c.new
    × EndsServe status s old new)))

-- where all was done, nothing is written on the fault stream
abbrev pub IsQuiet : ℕ → Told → Type 0
IsQuiet status t = status ≡ 0 → Keeps t.before t.now

-- so it is where the arguments name the desk that is asked
abbrev pub IsQuietAt : Place → ℕ → Told → Type 0
IsQuietAt place status t = status ≡ 0 → NamesDesk place → Keeps t.before t.now

-- in which form the states of a hall's desks are printed
abbrev pub form_of : Bool → Form
form_of true = form.Json
form_of false = form.Text

-- at most five desks are asked at once
abbrev pub HasFew : Task → Type 0
HasFew (task.Status desks patience json watches all) = AreFew desks
HasFew _ = Unit {0}

-- how a task ended: by a status, with what was read, written and reported, and what became of
-- connections
abbrev pub Ends : Task → ℕ → Sides → Calls → Told → Type 0
Ends (task.Replay replay) status s c t = EndsTask replay status s t
Ends (task.Import file options) status s c t =
    Keeps s.had s.left × EndsImport status options s.old s.new × IsQuiet status t
Ends (task.Export file running) status s c t =
    EndsExport status running s.had s.old s.new × IsQuiet status t
Ends task.Results status s c t = EndsResults status s.had s.old s.new × IsQuiet status t
Ends (task.Hall desks) status s c t =
    (input : List ℕ) × HasLeft s.had input
    × EndsHall status (hall_run_of desks input s) × IsQuiet status t
Ends (task.HallFile hall addresses keys) status s c t =
    Keeps s.had s.left × EndsHallFile keys status hall (map (λ a. a.now) addresses.now) s.old s.new
    × IsQuiet status t
Ends (task.Key file) status s c t =
    Keeps s.had s.left × EndsKey (option_map (λ f. f.now) file) status s.old s.new
    × IsQuiet status t
Ends (task.Carry place patience request) status s c t =
    Keeps s.had s.left × EndsCarry place patience request status (reach_of c t) s.old s.new
    × IsQuietAt place status t
Ends (task.Newest place patience event round style) status s c t =
    Keeps s.had s.left
    × EndsNewest place patience (record { event = event; round = round; style = style }) status
    (reach_of c t) s.old s.new × IsQuietAt place status t
Ends (task.Enter place patience id words waits) status s c t =
    Keeps s.had s.left
    × EndsWords place patience id words.now waits status (reach_of c t) s.old s.new
Ends (task.EnterLines place patience lines) status s c t =
    EndsLines place patience lines status (reach_of c t) s
Ends (task.Log store) status s c t =
    Keeps s.had s.left × EndsLog status s.old s.new × IsQuiet status t
Ends (task.CopyLog place patience start form) status s c t =
    Keeps s.had s.left
    × EndsCopyLog place patience start (log_form form) status (reach_of c t) s.old s.new
    × IsQuietAt place status t
Ends (task.Status desks patience json watches all) status s c t =
    Keeps s.had s.left × EndsStatus desks patience (form_of json) watches all status
    (record { dialed = c.old; dialed_then = c.new; old = s.old; new = s.new })
Ends (task.Serve service) status s c t =
    Keeps s.had s.left × EndsServe status service s.old s.new × IsQuiet status t
Ends (task.ServeHall file wanted) status s c t =
    Keeps s.had s.left × EndsServeHall status file wanted c s.old s.new × IsQuiet status t

-- what a status says of the arguments, and of what was read, written and reported
abbrev pub Ran : List Text → ℕ → Sides → Calls → Told → Type 0
Ran given status s c t =
    ((asked : Task) × Asks given asked × Ends asked status s c t)
    ⊎ (Keeps s.had s.left × RunsNothing status s.old s.new)
