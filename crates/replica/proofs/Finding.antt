-- What an opening finds until it is settled.
use Rattle.std.proofs.Common.{◌≡◌, inl, subst, sym}
use Rattle.store.specs.declared.keeper.Keeper.{Ghosts}
use Rattle.replica.specs.Stores.{FindsOldOrHeld}

-- a keeper that is as it was
pub finds_same : {K : Type 0} (k : Ghosts K) (old new : K) → new ≡ old → FindsOldOrHeld k old new
finds_same k old new same =
    subst (λ z. FindsOldOrHeld k old z) (sym same) (λ honest s log found. inl found)
