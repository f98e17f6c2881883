-- What an opening gives, and what a refusal tells and leaves (the project's own).
use Rattle.std.specs.Prelude.{◌≡◌, ◌⊎◌, ℕ, List, [], length, Result, IfOk, IsTrue}
use Rattle.sqlite.specs.{Tree.Trees, State.State, State.HasCleanDisk}
use Rattle.sqlite.specs.declared.error.Error.{Error, TheVariants.SqliteFailure}
use Rattle.sqlite.specs.declared.error.ErrorCode.TheVariants.{OutOfMemory, SystemIoFailure}
use Rattle.sqlite.specs.declared.error.ErrorCode.TheVariants.{DiskFull, CannotOpen, DatabaseBusy}
use Rattle.acceptor.specs.declared.{entry.Entry.Entry, stored.Stored.Stored}
use Rattle.acceptor.specs.Storing.{first_stored}
use Rattle.store.specs.declared.{home.Home.Home, fault.OpenFault.OpenFault}
use Rattle.store.specs.declared.fault.OpenFault.TheVariants.{NoMemory, Device, Damaged, WrongDesk}
use Rattle.store.specs.{Holding.Holds, Ranges.IsFit, Whole.IsSound}
use Rattle.store.specs.Kept.{Keeps, HasNoOther, HasOther, HasNoState, IsBare, KeepsSome}

-- What a refusal of `sqlite` to open a file means for a desk's store: memory and the device are
-- told apart from a file that is damaged.
abbrev pub refusal_of : Error → OpenFault
refusal_of (SqliteFailure OutOfMemory) = NoMemory
refusal_of (SqliteFailure SystemIoFailure) = Device
refusal_of (SqliteFailure DiskFull) = Device
refusal_of (SqliteFailure CannotOpen) = Device
refusal_of (SqliteFailure DatabaseBusy) = Device
refusal_of _ = Damaged

-- a look at the tables finds this state, and the length of its log
abbrev pub FindsThis : Home → Stored → List Entry → State → ℕ → Type 0
FindsThis home s log c len = (len ≡ length log) × IsFit home.desks s log × Keeps home s log c

-- it finds a state of this desk with all of it in its ranges
abbrev pub FindsSound : Home → State → ℕ → Type 0
FindsSound home c len =
    (s : Stored) × (log : List Entry) × (len ≡ length log) × IsFit home.desks s log
    × IsSound home s log × Keeps home s log c

-- it finds what was kept before
abbrev pub FindsAgain : Home → State → State → Result ℕ OpenFault → Type 0
FindsAgain home old new r =
    HasCleanDisk new → (s : Stored) (log : List Entry) → Keeps home s log old
    → IfOk r (FindsThis home s log new)

-- over nothing at all it finds the first state
abbrev pub FindsFirst : Home → State → State → Result ℕ OpenFault → Type 0
FindsFirst home old new r =
    HasCleanDisk new → IsBare old → IfOk r (FindsThis home first_stored [] new)

-- After a stop over nothing at all there is what was there, or both tables with the first row.
abbrev pub MakesBoth : Home → State → State → Type 0
MakesBoth home old new =
    HasCleanDisk new → IsBare old → (db : Trees) → new.may_leave db
    → old.may_leave db ⊎ Holds home db first_stored []

-- there was nothing at all, or a state of this desk
abbrev pub WasBareOrOurs : Home → State → Type 0
WasBareOrOurs home c = IsBare c ⊎ KeepsSome home c

-- What a keeper keeps that was opened for a desk over a connection.
pub record Opens (home : Home) (old : State) (keeps : Stored → List Entry → Type 0) : Type 0 where
  -- the connection had been given back what was written
  pub honest : HasCleanDisk old
  -- it is a state with all of it in its ranges
  pub kept : (s : Stored) × (log : List Entry) × IsSound home s log × keeps s log
  -- there was nothing at all, or a state of this desk
  pub found : WasBareOrOurs home old
  -- over nothing at all it is the first state
  pub made : IsBare old → keeps first_stored []
  -- and over a state of this desk it is that one
  pub same : (s : Stored) (log : List Entry) → Keeps home s log old → keeps s log

-- What the two refusals that speak of the tables tell of the connection as it was.
pub record Tells (home : Home) (old : State) (IsDamaged IsWrongDesk : Type 0) : Type 0 where
  -- no desk's state was there with all of it in its ranges
  pub damaged : IsDamaged → HasNoState old
  -- nor a whole row of another desk
  pub own : IsDamaged → HasNoOther home old
  -- a whole row of another desk was there
  pub wrong : IsWrongDesk → HasOther home old

-- What an opening that was refused leaves.
pub record Remains (home : Home) (old new : State) : Type 0 where
  -- after a stop there is what was there or, where nothing was, both tables with the first row
  pub crash : (db : Trees) → new.may_leave db
      → old.may_leave db ⊎ (IsBare old × Holds home db first_stored [])
  -- a connection that is still open keeps what it kept
  pub kept : IsTrue new.is_open → (away : Home) (s : Stored) (log : List Entry)
      → Keeps away s log old → Keeps away s log new

-- Why an opening was refused, and what it leaves.
pub record Refuses (home : Home) (old new : State) (fault : OpenFault) : Type 0 where
  -- the connection had been given back what was written
  pub honest : HasCleanDisk old
  pub tells : Tells home old (fault ≡ Damaged) (fault ≡ WrongDesk)
  -- nothing at all is not damaged
  pub fresh : fault ≡ Damaged → ¬ IsBare old
  pub remains : Remains home old new
