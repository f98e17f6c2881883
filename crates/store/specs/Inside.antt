-- What a connection has inside a transaction, and what a change makes of it there (the
-- project's own).
use Rattle.std.specs.Prelude.{◌≡◌, ◌≤◌, ℕ, List, length, Some, Result, OnOk, OnErr, IsTrue}
use Rattle.sqlite.specs.{declared.error.Error.Error, Effect.Database}
use Rattle.sqlite.specs.State.{State, HasCleanDisk}
use Rattle.acceptor.specs.declared.{entry.Entry.Entry, stored.Stored.Stored, stored.Change.Change}
use Rattle.acceptor.specs.Storing.{stored_after, log_after}
use Rattle.store.specs.{declared.home.Home.Home, Ranges.most_entries, Layout.IsOurs, Holding.Holds}
use Rattle.store.specs.{Kept.Keeps, Kept.Saved, Changes.stored_after_all, Changes.log_after_all}

-- It is open, the transaction has made this state, and the last commit is what it was.
pub record Inside (home : Home) (t : Stored) (more : List Entry) (past : Database)
    (c : State) : Type 0 where
  pub is_open : IsTrue c.is_open
  pub mode : IsTrue c.in_transaction
  pub committed : c.committed ≡ past
  pub ours : IsOurs c.now.schema
  pub holds : Holds home c.now.trees t more

-- the transaction goes on with this state; or it did not commit
abbrev pub GoesOn : {X : Type 0} → Home → Stored → List Entry → Database → State → Result X Error
    → Type 0
GoesOn home t more past new r =
    OnOk r (Inside home t more past new) × OnErr r (IsTrue new.is_open → new.committed ≡ past)

-- Whatever the transaction has made, with a log of this length, the statement makes the change.
abbrev pub MakesInside : {X : Type 0} → ℕ → Change → State → State → Result X Error → Type 0
MakesInside at change old new r =
    HasCleanDisk new → (home : Home) (t : Stored) (more : List Entry) (past : Database)
    → Inside home t more past old → at ≡ length more
    → GoesOn home (stored_after t (Some change)) (log_after more (Some change)) past new r

-- the same of a change that leaves the log as it is
abbrev pub MakesPlain : {X : Type 0} → Change → State → State → Result X Error → Type 0
MakesPlain change old new r =
    HasCleanDisk new → (home : Home) (t : Stored) (more : List Entry) (past : Database)
    → Inside home t more past old
    → GoesOn home (stored_after t (Some change)) (log_after more (Some change)) past new r

-- and of several
abbrev pub MakesAllInside : {X : Type 0} → ℕ → List Change → State → State → Result X Error → Type 0
MakesAllInside at changes old new r =
    HasCleanDisk new → (home : Home) (t : Stored) (more : List Entry) (past : Database)
    → Inside home t more past old → at ≡ length more
    → length (log_after_all more changes) ≤ most_entries
    → GoesOn home (stored_after_all t changes) (log_after_all more changes) past new r

-- All of the changes are saved together, or none of them.
abbrev pub SavesAllAt : {X : Type 0} → ℕ → List Change → State → State → Result X Error → Type 0
SavesAllAt len changes old new r =
    HasCleanDisk new → (home : Home) (s : Stored) (log : List Entry) → Keeps home s log old
    → len ≡ length log → length (log_after_all log changes) ≤ most_entries
    → Saved home s (stored_after_all s changes) log (log_after_all log changes) new r

-- the length of a log after them, where it is as long as it may be at most
abbrev pub TellsLength : ℕ → List Change → ℕ → Type 0
TellsLength len changes after =
    (log : List Entry) → len ≡ length log → length (log_after_all log changes) ≤ most_entries
    → after ≡ length (log_after_all log changes)
