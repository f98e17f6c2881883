-- What a connection keeps of a desk, and what a statement that saves leaves (the project's own).
use Rattle.std.specs.Prelude.{◌≡◌, ◌≢◌, ◌⊎◌, ℕ, false, List, [], length, Some, Result, OnOk, OnErr}
use Rattle.std.specs.Prelude.{IsTrue}
use Rattle.sqlite.specs.{Tree.Trees, declared.error.Error.Error, State.State, State.HasCleanDisk}
use Rattle.acceptor.specs.declared.{entry.Entry.Entry, stored.Stored.Stored, stored.Change.Change}
use Rattle.store.specs.{declared.home.Home.Home, Whole.IsWhole, Whole.IsSound}
use Rattle.acceptor.specs.Storing.{stored_after, log_after}
use Rattle.store.specs.{Ranges.IsHome, Ranges.StoredIsFit, Layout.IsOurs, Layout.no_schema}
use Rattle.store.specs.Holding.{Holds, HasRow}

-- It is open, between transactions, and the two tables have this state
pub record Keeps (home : Home) (s : Stored) (log : List Entry) (c : State) : Type 0 where
  pub is_open : IsTrue c.is_open
  pub autocommit : c.in_transaction ≡ false
  pub settled : c.now ≡ c.committed
  pub ours : IsOurs c.now.schema
  pub holds : Holds home c.now.trees s log

-- the new state at Ok, the old one at a refusal that leaves the connection open, and one of the two
-- after a crash
pub record Saved {X : Type 0} (home : Home) (s t : Stored) (log more : List Entry) (new : State)
    (r : Result X Error) : Type 0 where
  pub ok : OnOk r (Keeps home t more new)
  pub err : OnErr r (IsTrue new.is_open → Keeps home s log new)
  pub crash : (db : Trees) → new.may_leave db → Holds home db s log ⊎ Holds home db t more

-- Whatever state the connection keeps, with a log of this length, the statement saves the change.
abbrev pub SavesAt : {X : Type 0} → ℕ → Change → State → State → Result X Error → Type 0
SavesAt len change old new r =
    HasCleanDisk new → (home : Home) (s : Stored) (log : List Entry) → Keeps home s log old
    → len ≡ length log
    → Saved home s (stored_after s (Some change)) log (log_after log (Some change)) new r

-- the same of a change that leaves the log as it is
abbrev pub Saves : {X : Type 0} → Change → State → State → Result X Error → Type 0
Saves change old new r =
    HasCleanDisk new → (home : Home) (s : Stored) (log : List Entry) → Keeps home s log old
    → Saved home s (stored_after s (Some change)) log (log_after log (Some change)) new r

-- It is between transactions, the tables are there, and the row has this desk and this state, whole
-- and in their ranges.
pub record HasDesk (home : Home) (s : Stored) (c : State) : Type 0 where
  pub ours : IsOurs c.now.schema
  pub autocommit : c.in_transaction ≡ false
  pub settled : IsTrue c.is_open → c.now ≡ c.committed
  pub row : HasRow home s c.now.trees
  pub whole : IsWhole home s
  pub place : IsHome home
  pub in_range : StoredIsFit home.desks s

-- no desk's row is there, whole and in its ranges
abbrev pub HasNoDesk : State → Type 0
HasNoDesk c = (away : Home) (s : Stored) → ¬ HasDesk away s c

-- and none but this desk's
abbrev pub HasNoOther : Home → State → Type 0
HasNoOther home c = (away : Home) (s : Stored) → HasDesk away s c → away ≡ home

-- the row is another desk's
abbrev pub HasOther : Home → State → Type 0
HasOther home c = (away : Home) × (s : Stored) × HasDesk away s c × (away ≢ home)

-- no desk's state is there with all of it in its ranges
abbrev pub HasNoState : State → Type 0
HasNoState c =
    (away : Home) (s : Stored) (log : List Entry) → IsSound away s log → ¬ Keeps away s log c

-- the database has nothing at all
abbrev pub IsBare : State → Type 0
IsBare c = c.now.schema ≡ no_schema

-- the connection keeps some state of this desk
abbrev pub KeepsSome : Home → State → Type 0
KeepsSome home c = (s : Stored) × (log : List Entry) × Keeps home s log c

-- what an open after a crash at this moment may find
abbrev pub MayLeave : State → Home → Stored → List Entry → Type 0
MayLeave c home s log = (db : Trees) × c.may_leave db × Holds home db s log

-- an open after a crash at this moment may find no state of this desk
abbrev pub MayBreak : State → Home → Type 0
MayBreak c home =
    (db : Trees) × c.may_leave db × ((s : Stored) (log : List Entry) → ¬ Holds home db s log)

-- What a call that only looks leaves: it opens nothing, a connection that is still open keeps what
-- it kept, and a crash leaves nothing that it could not leave before.
pub record Spares (old new : State) : Type 0 where
  pub was_open : IsTrue new.is_open → IsTrue old.is_open
  pub kept : IsTrue new.is_open → (home : Home) (s : Stored) (log : List Entry)
      → Keeps home s log old → Keeps home s log new
  pub crash : (db : Trees) → new.may_leave db → old.may_leave db
