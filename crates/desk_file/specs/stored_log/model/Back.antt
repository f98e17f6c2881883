-- A connection after a transaction that was rolled back.
use Rattle.std.specs.Prelude.{◌≡◌, IsTrue}
use Rattle.sqlite.specs.State.{State}

-- a connection that is still open shows what was committed, as it was
abbrev pub IsBack : State → State → Type 0
IsBack old new = IsTrue new.is_open → (new.now ≡ old.committed) × (new.committed ≡ old.committed)
