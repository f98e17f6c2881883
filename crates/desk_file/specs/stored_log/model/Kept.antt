-- The log that a keeper's load gives.
use Rattle.std.specs.Prelude.{◌≡◌, List}
use Rattle.sqlite.specs.State.{HasCleanDisk, State}
use Rattle.acceptor.specs.declared.{entry.Entry.Entry, stored.Stored.Stored}
use Rattle.store.specs.declared.keeper.Keeper.{Ghosts}
use Rattle.desk_file.specs.stored_log.StoredLogs.{HasLog}

-- it is the log that the keeper kept, where the keeper after the load is honest
abbrev pub IsKeptBy : {K : Type 0} → Ghosts K → K → List Entry → Type 0
IsKeptBy {K} k keeper log =
    (last : K) × (k.is_honest last → k.is_honest keeper
    × ((s : Stored) (kept : List Entry) → k.keeps keeper s kept → log ≡ kept))

-- it is the log of a desk's store that the connection had
abbrev pub IsLogOf : {K : Type 0} → Ghosts K → State → List Entry → Type 0
IsLogOf {K} k c log = (last : K) × (k.is_honest last → HasCleanDisk c × HasLog c.committed log)
