-- The mark of a desk's file that is in use, and the log that belongs to it (the project's own).
use Rattle.std.specs.Prelude.{◌≡◌, ◌≢◌, ◌⊎◌, ℕ, ◌+◌, ◌%◌, ◌^◌, ◌<◌, ◌≤◌, IsTrue, List, length}
use Rattle.std.specs.Prelude.{slice_index}
use Rattle.sqlite_disk.specs.{Disk.Only, Disk.Torn, declared.Disk.Ghosts, declared.Files.Files}
use Rattle.sqlite_wal.specs.{Format.IsSigned, Format.be32, Reads.IsClean}
use Rattle.sqlite_wal.specs.Recovery.{IsIgnored, header}
use Rattle.desk_file.specs.declared.mark.FilesState.{FilesState}
use Rattle.desk_file.specs.declared.mark.FilesState.TheVariants as standing

-- The file is in use: the first byte of the field that SQLite calls `user_version` is not 0.
abbrev pub IsMarked : List ℕ → Type 0
IsMarked db = (64 ≤ length db) × (slice_index db 60 ≢ 0)

-- The number of the use: the four bytes of that field.
abbrev pub number_of : List ℕ → ℕ
number_of db = be32 db 60

-- How many uses of the file were begun, as the last three bytes of the number have it; they stay
-- when the first one is taken away.
abbrev pub uses_of : List ℕ → ℕ
uses_of db = number_of db % 0x100_0000

-- What is counted are bytes.
abbrev pub CountsInBytes : List ℕ → Type 0
CountsInBytes db = (slice_index db 61 < 256) × (slice_index db 62 < 256) × (slice_index db 63 < 256)

-- The log was begun for the use of this number. A log counts how often it was emptied, and each
-- time the first half of its salt goes up by one: what lies between the two never changes.
abbrev pub IsOfUse : ℕ → List ℕ → Type 0
IsOfUse n log = (41 ≤ length log) × ((be32 log 12 + n) % 2 ^ 32 ≡ be32 log 16)

-- None of its frames counts: the first one's salt does not begin with the byte that it would need.
abbrev pub IsShut : List ℕ → Type 0
IsShut log = slice_index log 40 ≢ slice_index log 16

-- The log of this use, as a desk writes it: SQLite reads it as a log, and, where it has frames,
-- the first one is there to its end.
abbrev pub IsLog : ℕ → List ℕ → Type 0
IsLog n log = IsOfUse n log × (¬ IsIgnored log) × (IsShut log ⊎ (be32 log 8 + 56 ≤ length log))

-- The log of this use, emptied once all that it had was copied into the file: it is about to get a
-- new header, or nothing follows its header.
abbrev pub IsEmptied : ℕ → List ℕ → Type 0
IsEmptied n log =
    IsOfUse n log
    × ((slice_index log 0 ≡ 0) ⊎ ((length log < 56) × IsSigned (header log) × IsShut log))

-- SQLite reads it as a log, and reads its first frame, which is there to its end.
abbrev pub HasFrame : List ℕ → Type 0
HasFrame log =
    (¬ IsIgnored log) × (slice_index log 40 ≡ slice_index log 16) × (be32 log 8 + 56 ≤ length log)

-- The file was in use and is not, so that it has everything, and a log with a frame is beside it:
-- that of another file, or this file is older.
abbrev pub IsStrange : (log db : List ℕ) → Type 0
IsStrange log db = (64 ≤ length db) × (slice_index db 60 ≡ 0) × (number_of db ≢ 0) × HasFrame log

-- how the log beside a file is that is in use under this number
abbrev pub StandsBeside : FilesState → ℕ → List ℕ → Type 0
StandsBeside standing.Free n log = ⊥
StandsBeside standing.StrangeLog n log = ⊥
StandsBeside standing.InUse n log = IsLog n log
StandsBeside standing.Emptied n log = IsEmptied n log
StandsBeside standing.LogLost n log = (¬ IsLog n log) × (¬ IsEmptied n log)

-- How a desk's two files are: each two files in one of these ways, and in no other.
abbrev pub Stands : FilesState → (log db : List ℕ) → Type 0
Stands standing.Free log db = (¬ IsMarked db) × (¬ IsStrange log db)
Stands standing.StrangeLog log db = IsStrange log db
Stands it log db = IsMarked db × StandsBeside it (number_of db) log

-- the two have everything that was kept
abbrev pub AreWhole : (log db : List ℕ) → Type 0
AreWhole log db =
    Stands standing.Free log db ⊎ Stands standing.InUse log db ⊎ Stands standing.Emptied log db

-- one of the two is not the other's
abbrev pub AreApart : (log db : List ℕ) → Type 0
AreApart log db = Stands standing.LogLost log db ⊎ Stands standing.StrangeLog log db

-- the two files that were looked at were so, if they gave back what they hold
abbrev pub Tells : {D : Type 0} → Ghosts D → (List ℕ → List ℕ → Type 0) → (log db : List ℕ) → Type 0
Tells {D} g Are log db =
    (dropped : Files D) × (IsClean g dropped.log → IsClean g dropped.db → Are log db)

-- What a kill leaves of the two while a use begins: no mark, or the mark of this use and its log.
abbrev pub IsBegun : ℕ → (log db : List ℕ) → Type 0
IsBegun n log db = (¬ IsMarked db) ⊎ (IsMarked db × (number_of db ≡ n) × IsLog n log)

-- After a cut of the power each byte of a write that was torn is the old one or the new one, as the
-- program supposes of its disk.
abbrev pub Mixes : {D : Type 0} → Ghosts D → Type 0
Mixes {D} g = (disk : D) → IsTrue (g.is_mixing disk)

-- a file and its log that are put into their next use, this many of which were begun with this one
pub record IsNextUse {D : Type 0} (g : Ghosts D) (old new : Files D) (uses : ℕ) : Type 0 where
  pub begun : Stands standing.InUse (g.seen new.log) (g.seen new.db)
  pub log_synced : Only (g.seen new.log) (g.may_leave new.log)
  pub db_synced : Only (g.seen new.db) (g.may_leave new.db)
  pub others : Torn 60 4 (g.seen old.db) (g.seen new.db)
  pub number : uses_of (g.seen new.db) ≡ uses
  pub counted : IsClean g new.db → 64 ≤ length (g.seen old.db) → uses ≡ uses_of (g.seen old.db) + 1

-- What a kill leaves of the two while the next use begins: the last use's mark and its log, or no
-- mark, or the mark of the next use and its log.
abbrev pub IsBetween : {D : Type 0} (g : Ghosts D) → Files D → (log db : List ℕ) → Type 0
IsBetween g old log db =
    ((d : List ℕ) × g.may_leave old.db d × (slice_index db 60 ≡ slice_index d 60)
    × g.may_leave old.log log) ⊎ ((¬ IsMarked db) ⊎ (IsMarked db × IsLog (number_of db) log))

-- whatever a crash leaves of the file has its field, and counts at least this many uses
abbrev pub HasCounted : {D : Type 0} → Ghosts D → ℕ → D → Type 0
HasCounted g uses db = (c : List ℕ) → g.may_leave db c → (64 ≤ length c) × (uses ≤ uses_of c)

-- What a kill leaves of an unmarked file while it gets the mark of this number: what it left
-- before, or no mark, or that mark.
abbrev pub MayGetMark : {D : Type 0} → Ghosts D → ℕ → (old new : D) → Type 0
MayGetMark g number old new =
    Mixes g → 64 ≤ length (g.seen old) → ¬ IsMarked (g.seen old) → (c : List ℕ) → g.may_leave new c
    → g.may_leave old c ⊎ ((¬ IsMarked c) ⊎ (IsMarked c × (number_of c ≡ number)))

-- What a kill leaves of an unmarked file and its log while the use of this number begins: what it
-- left of the file before, or no mark, or the mark of this use and its log.
abbrev pub MayBegin : {D : Type 0} → Ghosts D → ℕ → (old new : Files D) → Type 0
MayBegin g number old new =
    Mixes g → 64 ≤ length (g.seen old.db) → ¬ IsMarked (g.seen old.db)
    → (log db : List ℕ) → g.may_leave new.log log → g.may_leave new.db db
    → g.may_leave old.db db ⊎ IsBegun number log db

-- If whatever a kill could leave of the file before had the field of the mark, then what a kill
-- leaves of the two while the next use begins is between the two uses.
abbrev pub MayBeginNext : {D : Type 0} → Ghosts D → (old new : Files D) → Type 0
MayBeginNext g old new =
    Mixes g → 64 ≤ length (g.seen old.db) → ((d : List ℕ) → g.may_leave old.db d → 64 ≤ length d)
    → (log db : List ℕ) → g.may_leave new.log log → g.may_leave new.db db → IsBetween g old log db

-- whatever a kill leaves of the file counts as many uses as were seen in it, as it did before
abbrev pub KeepsCount : {D : Type 0} → Ghosts D → (old new : D) → Type 0
KeepsCount g old new =
    HasCounted g (uses_of (g.seen old)) old → HasCounted g (uses_of (g.seen old)) new

-- so it is while the file gets the mark of this number, which counts no fewer uses
abbrev pub KeepsCountUpTo : {D : Type 0} → Ghosts D → ℕ → (old new : D) → Type 0
KeepsCountUpTo g number old new =
    Mixes g → 64 ≤ length (g.seen old) → CountsInBytes (g.seen old)
    → uses_of (g.seen old) ≤ number % 2 ^ 24 → KeepsCount g old new
