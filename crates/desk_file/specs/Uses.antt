-- The store of a desk, closed with everything in its file (the project's own).
use Rattle.std.specs.Prelude.{ℕ, List}
use Rattle.sqlite.specs.{Closing.HoldsAlone, Files.image_of, Recovery.Image, Tree.Trees}
use Rattle.sqlite_disk.specs.{Disk.Only, Disk.Torn, declared.Files.Files}
use Rattle.sqlite_wal.specs.Reads.{AreClean}
use Rattle.acceptor.specs.declared.{entry.Entry.Entry, stored.Stored.Stored}
use Rattle.store.specs.{Holding.Holds, declared.home.Home.Home}
use Rattle.desk_file.specs.{Files.KeepsFirst, Marks.IsMarked, Marks.IsNextUse}
use Rattle.sqlite_disk.specs.declared.Disk as disk
use Rattle.store.specs.declared.keeper.Keeper as keeper

-- What the keeper kept is in the database that the file has alone, with no log beside it.
abbrev pub HasAllOf : {D K : Type 0} → disk.Ghosts D → keeper.Ghosts K → K → Files D → Type 0
HasAllOf g k kept files =
    AreClean g files.log files.db → k.is_settled kept → (s : Stored) (log : List Entry)
    → k.keeps kept s log
    → (trees : Trees) × HoldsAlone (image_of g files) trees × Holds (k.home_of kept) trees s log

-- the keeper was closed so, and then its file was put into its next use
abbrev pub IsPutInUse : {D K : Type 0} → disk.Ghosts D → keeper.Ghosts K → K → ℕ → Type 0
IsPutInUse {D} g k kept uses =
    (old new : Files D) × HasAllOf g k kept old × IsNextUse g old new uses

-- the keeper was closed so, and then its file was taken out of use
abbrev pub IsPutAway : {D K : Type 0} → disk.Ghosts D → keeper.Ghosts K → K → Type 0
IsPutAway {D} g k kept =
    (old : Files D) × (db : D) × HasAllOf g k kept old × (¬ IsMarked (g.seen db))
    × Only (g.seen db) (g.may_leave db) × Torn 60 1 (g.seen old.db) (g.seen db)

-- a keeper was opened with a desk's first state, where no table was, and closed so
abbrev pub IsMade : {D K : Type 0} → disk.Ghosts D → keeper.Ghosts K → Image → Home → Type 0
IsMade {D} {K} g k files home =
    (kept : K) × KeepsFirst k files home kept × (whole : Files D) × HasAllOf g k kept whole
