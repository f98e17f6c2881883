-- What a desk's files held, and the store that is opened on them (the project's own).
use Rattle.std.specs.Prelude.{◌≡◌, ◌≢◌, ◌⊎◌, List, []}
use Rattle.sqlite.specs.{Effect.IsDatabase, Recovery.Image, Schema.Schema, Tree.Trees}
use Rattle.sqlite.specs.{Files.AreFoundIn, Files.HoldsDatabase, State.HasCleanDisk, State.State}
use Rattle.acceptor.specs.Storing.{first_stored}
use Rattle.acceptor.specs.declared.{entry.Entry.Entry, stored.Stored.Stored}
use Rattle.store.specs.{Holding.HasRow, Holding.Holds, Layout.no_schema, Ranges.IsHome}
use Rattle.store.specs.declared.fault.{LoadFault.LoadFault, OpenFault.OpenFault}
use Rattle.store.specs.declared.{home.Home.Home, keeper.Keeper.Ghosts}
use Rattle.store.specs.declared.fault.LoadFault.TheVariants as loading
use Rattle.store.specs.declared.fault.OpenFault.TheVariants as opening

-- a database that has no table
abbrev pub HasNoTable : Trees → Type 0
HasNoTable trees = IsDatabase (record { schema = no_schema; trees = trees })

-- it has no table, and the state is a desk's first one, with an empty log
pub record IsFirst (trees : Trees) (s : Stored) (log : List Entry) : Type 0 where
  pub bare : HasNoTable trees
  pub state : s ≡ first_stored
  pub empty : log ≡ []

-- A database file and its write-ahead log held what is said of the database that SQLite recovers
-- from the two.
pub record HeldAs (files : Image) (Has : Trees → Type 0) : Type 0 where
  pub trees : Trees
  pub found : AreFoundIn files trees
  pub only : (db : Trees) → HoldsDatabase files db → trees ≡ db
  pub has : Has trees

-- The keeper of this desk that is opened on two files: no failure is counted, and, where the files
-- have given back what was written to them, it keeps a state and a log of which this is so in the
-- database that they held.
pub record KeepsAs {K : Type 0} (k : Ghosts K) (files : Image) (home : Home)
    (Has : Stored → List Entry → Trees → Type 0) (keeper : K) : Type 0 where
  pub place : k.home_of keeper ≡ home
  pub fresh : k.failures_of keeper ≡ 0
  pub settled : k.is_settled keeper
  pub held : k.is_honest keeper
      → (s : Stored) × (log : List Entry) × k.keeps keeper s log × HeldAs files (Has s log)

-- a database that has a table, an index or a view
abbrev pub HasTable : Trees → Type 0
HasTable trees =
    (schema : Schema) × (schema ≢ no_schema)
    × IsDatabase (record { schema = schema; trees = trees })

-- it was so if a connection that has been dropped had been given back what was written
abbrev pub TellsTable : {C : Type 0} → (C → State) → Image → Type 0
TellsTable {C} state files = (dropped : C) × (HasCleanDisk (state dropped) → HeldAs files HasTable)

-- they are in the tables of this desk
abbrev pub StandsIn : Home → Stored → List Entry → Trees → Type 0
StandsIn home s log trees = Holds home trees s log

-- there is no table, and they are the first ones
abbrev pub IsMadeIn : Stored → List Entry → Trees → Type 0
IsMadeIn s log trees = IsFirst trees s log

-- one or the other
abbrev pub IsStateIn : Home → Stored → List Entry → Trees → Type 0
IsStateIn home s log trees = StandsIn home s log trees ⊎ IsMadeIn s log trees

-- A database file and its write-ahead log held this state of a desk.
abbrev pub HeldBy : Image → Home → Stored → List Entry → Type 0
HeldBy files home s log = HeldAs files (IsStateIn home s log)

-- The keeper of this desk keeps a state and a log that the files held.
abbrev pub KeepsHeld : {K : Type 0} → Ghosts K → Image → Home → K → Type 0
KeepsHeld k files home keeper = KeepsAs k files home (IsStateIn home) keeper

-- The keeper of this desk keeps what its tables had.
abbrev pub KeepsThere : {K : Type 0} → Ghosts K → Image → Home → K → Type 0
KeepsThere k files home keeper = KeepsAs k files home (StandsIn home) keeper

-- The keeper of this desk keeps a first state with an empty log, and the database had no table.
abbrev pub KeepsFirst : {K : Type 0} → Ghosts K → Image → Home → K → Type 0
KeepsFirst k files home keeper = KeepsAs k files home IsMadeIn keeper

-- A database file and its write-ahead log held the row of another desk: it is in the database that
-- SQLite recovers from the two.
pub record HeldOther (files : Image) (home : Home) : Type 0 where
  pub trees : Trees
  pub found : AreFoundIn files trees
  pub only : (db : Trees) → HoldsDatabase files db → trees ≡ db
  pub away : Home
  pub place : IsHome away
  pub other : away ≢ home
  pub state : Stored
  pub row : HasRow away state trees

-- it was so if a connection that has been dropped had been given back what was written
abbrev pub TellsOther : {C : Type 0} → (C → State) → Image → Home → Type 0
TellsOther {C} state files home =
    (dropped : C) × (HasCleanDisk (state dropped) → HeldOther files home)

-- the fault of a load, by its own name among those of an opening
abbrev pub loading_fault : LoadFault → OpenFault
loading_fault loading.Damaged = opening.Damaged
loading_fault loading.Device = opening.Device
loading_fault loading.NoMemory = opening.NoMemory
