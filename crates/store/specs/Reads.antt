-- What the queries over the two tables give, and what a read of them finds (the project's own).
use Rattle.std.specs.Prelude.{◌≡◌, List, map, Result, IfOk, OnOk, IsPermutation, IsSorted}
use Rattle.std.specs.Global.{Vec}
use Rattle.sqlite.specs.{Order.Row, State.State, State.HasCleanDisk, State.IsUnchanged}
use Rattle.acceptor.specs.declared.{entry.Entry.Entry, stored.Stored.Stored}
use Rattle.learner.specs.Logs.{LogValue}
use Rattle.store.specs.{declared.home.Home.Home, Whole.IsWhole, Whole.LogIsWhole, Layout.IsOurs}
use Rattle.store.specs.Holding.{HasRow, HasLog, shown_desk, shown_entry, by_first}
use Rattle.store.specs.Kept.{Spares, HasNoState, HasNoOther, HasOther}

-- The premises of every read: the disk has given back what was written, and the two tables are the
-- store's.
abbrev pub OnOurs : State → State → Type 0 → Type 0
OnOurs old new Fact = HasCleanDisk new → IsOurs old.now.schema → Fact

-- the rows of `desk`, in some order
abbrev pub GivesDeskRows : {E : Type 0} → State → State → Result (Vec Row) E → Type 0
GivesDeskRows old new r =
    OnOurs old new (IfOk r (λ rows. IsPermutation (map shown_desk (old.now.trees 0)) rows.items))

-- the rows of `entries`
abbrev pub GivesLogRows : {E : Type 0} → State → State → Result (Vec Row) E → Type 0
GivesLogRows old new r =
    OnOurs old new (IfOk r (λ rows. IsPermutation (map shown_entry (old.now.trees 1)) rows.items))

-- in order of their positions
abbrev pub GivesInOrder : {E : Type 0} → State → State → Result (Vec Row) E → Type 0
GivesInOrder old new r = OnOurs old new (IfOk r (λ rows. IsSorted by_first rows.items))

-- the one row of the desk
abbrev pub GivesDesk : {E : Type 0} → State → State → Result (Home × Stored) E → Type 0
GivesDesk old new r = OnOurs old new (IfOk r (λ d. HasRow d.0 d.1 old.now.trees))

-- the log
abbrev pub GivesLog : {E : Type 0} → State → State → Result LogValue E → Type 0
GivesLog old new r = OnOurs old new (IfOk r (λ log. HasLog log.entries old.now.trees))

-- the row is no desk's with each field in the range of its column
abbrev pub FindsNoDesk : State → State → Type 0
FindsNoDesk old new =
    OnOurs old new ((home : Home) (s : Stored) → IsWhole home s → ¬ HasRow home s old.now.trees)

-- the rows are no log's
abbrev pub FindsNoLog : State → State → Type 0
FindsNoLog old new =
    OnOurs old new ((log : List Entry) → LogIsWhole log → ¬ HasLog log old.now.trees)

-- where it is answered, the connection is as it was
abbrev pub StaysAsItWas : {X E : Type 0} → State → State → Result X E → Type 0
StaysAsItWas old new r = OnOurs old new (OnOk r (IsUnchanged old new))

-- and in any case what it kept is spared
abbrev pub SparesOurs : State → State → Type 0
SparesOurs old new = OnOurs old new (Spares old new)

-- While the disk gives back what was written: no desk's state is there with all of it in its
-- ranges.
abbrev pub FindsNoState : State → State → Type 0
FindsNoState old new = HasCleanDisk new → HasNoState old

-- no whole row of another desk is there
abbrev pub FindsNoOther : Home → State → State → Type 0
FindsNoOther home old new = HasCleanDisk new → HasNoOther home old

-- a whole row of another desk is there
abbrev pub FindsOther : Home → State → State → Type 0
FindsOther home old new = HasCleanDisk new → HasOther home old
