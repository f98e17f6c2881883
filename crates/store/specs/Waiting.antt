-- A state that a store has once the changes that wait are committed (the project's own).
use Rattle.std.specs.Prelude.{◌≡◌, ℕ, List, length}
use Rattle.sqlite.specs.State.{State}
use Rattle.acceptor.specs.declared.{entry.Entry.Entry, stored.Stored.Stored, stored.Change.Change}
use Rattle.store.specs.{declared.home.Home.Home, Changes.Leads, Kept.Keeps, Kept.MayLeave}

-- the connection keeps a state, with a log of this length, that becomes this one by the changes
pub record KeepsBefore (home : Home) (len : ℕ) (changes : List Change) (c : State) (s : Stored)
    (log : List Entry) : Type 0 where
  pub before : Stored
  pub past : List Entry
  pub leads : Leads changes before past s log
  pub long : len ≡ length past
  pub keeps : Keeps home before past c

-- an open after a crash at this moment may find a state that becomes this one by the changes
abbrev pub MayLeaveBefore : List Change → State → Home → Stored → List Entry → Type 0
MayLeaveBefore changes c home s log =
    (before : Stored) × (past : List Entry) × MayLeave c home before past
    × Leads changes before past s log
