-- What a call of `Node::settle` answers, and what it leaves (the project's own).
use Rattle.std.specs.Prelude.{◌≡◌, ◌⊎◌, ◌<◌, Bool, true, false, not, List, IsTrue}
use Rattle.acceptor.specs.declared.{entry.Entry.Entry, stored.Stored.Stored}
use Rattle.store.specs.declared.keeper.Keeper.{Ghosts}
use Rattle.replica.specs.{Nodes.NodeValue, Stores.HoldsDesk}

-- an opening finds what it found before, or what the store was to hold once it is settled
abbrev pub FindsEither : {K : Type 0} → Ghosts K → K → K → Type 0
FindsEither k old new =
    k.is_honest new → (¬ k.may_break new) × ((s : Stored) (log : List Entry) → k.finds new s log
    → k.finds old s log ⊎ k.may_hold old s log)

-- What `settle` answers, and what the node is then: true where all that was kept on is committed,
-- together, and false where the desk is Down.
pub record Settles {K : Type 0} (k : Ghosts K) (old : NodeValue K) (ok : Bool)
    (new : NodeValue K) : Type 0 where
  -- what the desk knows stays
  pub desk : new.desk ≡ old.desk
  pub told : new.told ≡ old.told
  -- once the desk is Down each answer is false, and nothing changes
  pub ended : old.is_down ≡ true → new ≡ old
  pub down : new.is_down ≡ not ok
  -- nothing waits then; and where nothing waited, nothing changes
  pub settled : IsTrue ok → k.is_settled new.keeper
  pub idle : IsTrue ok → k.is_settled old.keeper → new ≡ old
  -- the store of a desk that is up holds the desk's state alone
  pub stored : new.is_down ≡ false → HoldsDesk k new.keeper new.desk
  -- whatever is answered, all that waited is committed, or nothing of it
  pub left : old.is_down ≡ false → FindsEither k old.keeper new.keeper
  -- the call that is the first to be answered false has counted a failure, and no other counts one
  pub counted : old.is_down ≡ false → ok ≡ false
      → k.failures_of old.keeper < k.failures_of new.keeper
  pub uncounted : IsTrue ok → k.failures_of new.keeper ≡ k.failures_of old.keeper
  pub honest : k.is_honest new.keeper → k.is_honest old.keeper
  pub home : k.home_of new.keeper ≡ k.home_of old.keeper
