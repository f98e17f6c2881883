-- What is printed of the log of a desk that runs (the project's own).
use Rattle.std.specs.Prelude.{◌≡◌, ◌⊎◌, [], ℕ, List, Option}
use Rattle.std.specs.Io.KnownBytes.{Keeps, Appends}
use Rattle.acceptor.specs.declared.entry.Entry.{Entry}
use Rattle.archive.specs.{Archive.archive_from, Replayed.IsReplayed}
use Rattle.batch.specs.{Asking.IsOfAsking, Dialing.Adds, Dialing.Asked, Dialing.Told}
use Rattle.batch.specs.Logs.{AddsSo, FailsLog, TellsLog}
use Rattle.batch.specs.declared.{asking.Receiver.Receiver, fault.BatchFault.BatchFault}
use Rattle.log_rows.specs.Rows.{rows}
use Rattle.lines.specs.Bytes.{AppendsPart}
use Rattle.wire.specs.Ranges.{IsDesk}
use Rattle.desk_requests.specs.{Errands.IsOfPrinting, Statuses.fault_of_batch}
use Rattle.desk_requests.specs.declared.fault.DeskFault.{DeskFault}
use Rattle.desk_requests.specs.declared.logs.LogForm.{LogForm, TheVariants.Lines, TheVariants.Rows}
use Rattle.desk_requests.specs.declared.fault.DeskFault.TheVariants as fault

-- what is printed of a log from a position on
abbrev pub printed_log : LogForm → ℕ → List Entry → List ℕ
printed_log Lines from log = archive_from from log
printed_log (Rows shown) from log = rows from shown log

-- a replay of the lines of the whole log gives its sheets; rows are not replayed
abbrev pub IsReplayedAs : LogForm → List Entry → Type 0
IsReplayedAs Lines log = IsReplayed log
IsReplayedAs (Rows shown) log = Unit {0}

-- the desk reported its whole log, and what is printed of it was written
abbrev pub PrintsTold : Receiver → LogForm → ℕ → Told → Option (List ℕ) → Option (List ℕ) → Type 0
PrintsTold r form from t old new =
    IsDesk r.desk × (log : List Entry) × AddsSo t (TellsLog r log) × IsReplayedAs form log
    × Appends old new (printed_log form from log)

-- the desk's number is invalid, and nothing was asked or written
abbrev pub RefusesDesk : DeskFault → Receiver → Told → Option (List ℕ) → Option (List ℕ) → Type 0
RefusesDesk f r t old new =
    (f ≡ fault.BadDesk) × (¬ IsDesk r.desk) × Adds t.place t.old t.new [] × Keeps old new

-- a request failed as it says, and nothing was written
abbrev pub FailsToAsk : DeskFault → Receiver → (BatchFault → List Asked → Type 0) → Told
    → Option (List ℕ) → Option (List ℕ) → Type 0
FailsToAsk f r Fails t old new =
    (b : BatchFault) × (f ≡ fault_of_batch b) × IsDesk r.desk × IsOfAsking b
    × AddsSo t (Fails b) × Keeps old new

-- what was asked for came, and writing this text of it failed
abbrev pub FailsToWrite : {A : Type 0} → DeskFault → Receiver → (A → List Asked → Type 0)
    → (A → List ℕ) → Told → Option (List ℕ) → Option (List ℕ) → Type 0
FailsToWrite {A} f r Comes text t old new =
    IsOfPrinting f × IsDesk r.desk × (came : A) × AddsSo t (Comes came)
    × AppendsPart old new (text came)

abbrev pub FailsTold : DeskFault → Receiver → LogForm → ℕ → Told → Option (List ℕ)
    → Option (List ℕ) → Type 0
FailsTold f r form from t old new =
    RefusesDesk f r t old new ⊎ (FailsToAsk f r (λ b. FailsLog b r) t old new
    ⊎ FailsToWrite f r (TellsLog r) (printed_log form from) t old new)
