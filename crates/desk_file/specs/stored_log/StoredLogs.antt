-- What is written of a stored log (the project's own).
use Rattle.std.specs.Prelude.{◌≡◌, ◌⊎◌, ℕ, List, Option}
use Rattle.std.specs.Io.KnownBytes.{Appends, Keeps}
use Rattle.sqlite.specs.Effect.{Database, IsDatabase}
use Rattle.sqlite.specs.{Files.AreFoundIn, Files.HoldsDatabase, Recovery.Image, Tree.Trees}
use Rattle.acceptor.specs.declared.{entry.Entry.Entry, stored.Stored.Stored}
use Rattle.archive.specs.{Archive.archive_text, Replayed.IsReplayed}
use Rattle.lines.specs.Bytes.{AppendsPart}
use Rattle.store.specs.{Holding.Holds, Layout.IsOurs, Ranges.IsHome}
use Rattle.store.specs.declared.{fault.OpenFault.OpenFault, home.Home.Home}
use Rattle.desk_file.specs.declared.stored_log.fault.StoredLogFault.{StoredLogFault}
use Rattle.store.specs.declared.fault.OpenFault.TheVariants as opening
use Rattle.desk_file.specs.declared.stored_log.fault.StoredLogFault.TheVariants as fault

-- the archive of a log was written, and a replay of it gives the sheets of that log
abbrev pub PrintsLog : Option (List ℕ) → Option (List ℕ) → Type 0
PrintsLog old new = (log : List Entry) × IsReplayed log × Appends old new (archive_text log)

-- nothing was written, or a front part of an archive
abbrev pub PrintsLogPart : Option (List ℕ) → Option (List ℕ) → Type 0
PrintsLogPart old new =
    Keeps old new ⊎ ((log : List Entry) × AppendsPart old new (archive_text log))

-- ---- which log it is

-- the two tables of a desk's store are in the database, with this log
pub record HasLog (db : Database) (log : List Entry) : Type 0 where
  pub home : Home
  pub place : IsHome home
  pub stored : Stored
  pub ours : IsOurs db.schema
  pub holds : Holds home db.trees stored log

-- this is the database that SQLite recovers from a database file and its write-ahead log
pub record IsFound (files : Image) (db : Database) : Type 0 where
  pub found : AreFoundIn files db.trees
  pub only : (trees : Trees) → HoldsDatabase files trees → db.trees ≡ trees
  pub sound : IsDatabase db

-- the two files held a desk's store with this log
abbrev pub HoldsLog : Image → List Entry → Type 0
HoldsLog files log = (db : Database) × IsFound files db × HasLog db log

-- The log was read from the two files: they held it, where they have given back what was written to
-- them, as the keeper that read it says.
abbrev pub IsReadFrom : {K : Type 0} → (K → Type 0) → Image → List Entry → Type 0
IsReadFrom {K} IsHonest files log = (keeper : K) × (IsHonest keeper → HoldsLog files log)

-- the archive of the log that the files held was written, and a replay of it gives the sheets of
-- that log
abbrev pub PrintsHeld : {K : Type 0} → (K → Type 0) → Image → Option (List ℕ) → Option (List ℕ)
    → Type 0
PrintsHeld IsHonest files old new =
    (log : List Entry) × IsReadFrom IsHonest files log × IsReplayed log
    × Appends old new (archive_text log)

-- a front part of it was written
abbrev pub PrintsHeldPart : {K : Type 0} → (K → Type 0) → Image → Option (List ℕ)
    → Option (List ℕ) → Type 0
PrintsHeldPart IsHonest files old new =
    (log : List Entry) × IsReadFrom IsHonest files log × AppendsPart old new (archive_text log)

-- What was written at each fault. Where the file is damaged or can't be read, nothing was. Where a
-- write failed, the log had been read. Memory may run out before it and after it.
abbrev pub FailsLog : {K : Type 0} → StoredLogFault → (K → Type 0) → Image → Option (List ℕ)
    → Option (List ℕ) → Type 0
FailsLog fault.Damaged IsHonest files old new = Keeps old new
FailsLog fault.Device IsHonest files old new = Keeps old new
FailsLog fault.Write IsHonest files old new = PrintsHeldPart IsHonest files old new
FailsLog fault.NoMemory IsHonest files old new =
    Keeps old new ⊎ PrintsHeldPart IsHonest files old new

-- the faults of a file
abbrev pub IsOfFile : StoredLogFault → Type 0
IsOfFile fault.Write = ⊥
IsOfFile _ = Unit {0}

-- a store that was not opened or not loaded, where another desk's row is as good as none
abbrev pub opening_fault : OpenFault → StoredLogFault
opening_fault opening.WrongDesk = fault.Damaged
opening_fault opening.Damaged = fault.Damaged
opening_fault opening.Device = fault.Device
opening_fault opening.NoMemory = fault.NoMemory
