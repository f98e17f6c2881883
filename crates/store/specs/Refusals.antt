-- Why a call over SQL wants memory: SQLite refused it, or the values of a query's rows had none.
use Rattle.std.specs.Prelude.{◌≡◌, ◌⊎◌, ℕ, List, Result, Ok, Err}
use Rattle.std.specs.Global.{Vec}
use Rattle.sqlite.specs.{Order.Row, declared.error.ErrorCode.TheVariants.OutOfMemory}
use Rattle.sqlite.specs.declared.error.Error.{Error, TheVariants.SqliteFailure}
use Rattle.sqlite.specs.State.{State, HasCleanDisk, IsUnchanged, Executes, FailsToQuery, Shown}
use Rattle.store.specs.declared.loading.ReadFault.{ReadFault, TheVariants.Sql}
use Rattle.store.specs.Kept.{Spares}

-- SQLite refuses memory
abbrev pub no_memory : Error
no_memory = SqliteFailure OutOfMemory

-- A statement or a query that was run on the connection was refused so, and left it so.
abbrev pub IsRefused : State → State → Error → Type 0
IsRefused old new e =
    (sql : List ℕ) × (params : Row)
    × (Executes sql params old new (Err e) ⊎ FailsToQuery sql params old new e)

-- A query that was run on the connection was answered, and left it so.
abbrev pub IsAnswered : State → State → Type 0
IsAnswered old new =
    (sql : List ℕ) × (params : Row) × (rows : List Row) × Shown sql params old new rows

-- a query was answered, or refused so
abbrev pub IsAsked : State → State → Result (Vec Row) Error → Type 0
IsAsked old new (Ok _) = IsAnswered old new
IsAsked old new (Err e) = IsRefused old new e

-- and what was run is told of either
abbrev pub NamesAnswer : State → State → Result (Vec Row) Error → Type 0
NamesAnswer old new r = HasCleanDisk new → IsAsked old new r

-- Memory was refused to a query, or to the values of the rows that it gave.
abbrev pub LacksMemory : State → State → Type 0
LacksMemory old new = IsRefused old new no_memory ⊎ IsAnswered old new

-- a read that answers so names one of the two
abbrev pub NamesWant : {X : Type 0} → State → State → Result X ReadFault → Type 0
NamesWant old new r = r ≡ Err (Sql no_memory) → HasCleanDisk new → LacksMemory old new

-- Connections `C` show the states that `shows` says: memory was refused to one of the queries of a
-- read, and those before it spared what the connection kept.
abbrev pub ReadLacksMemory : {C : Type 0} → (C → State) → C → C → Type 0
ReadLacksMemory {C} shows old new =
    (mid : C) × Spares (shows old) (shows mid) × LacksMemory (shows mid) (shows new)

-- a read by several queries that answers so names the one
abbrev pub ReadNamesWant : {C X : Type 0} → (C → State) → C → C → Result X ReadFault → Type 0
ReadNamesWant shows old new r =
    r ≡ Err (Sql no_memory) → HasCleanDisk (shows new) → ReadLacksMemory shows old new

-- It was refused to a load by this, which then left the connection as it was.
abbrev pub LoadLacksMemory : {C : Type 0} → (C → State) → C → C → Type 0
LoadLacksMemory {C} shows old new =
    (mid : C) × ReadLacksMemory shows old mid × IsUnchanged (shows mid) (shows new)
