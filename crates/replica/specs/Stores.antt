-- What the store of a desk holds, before a change and after it, by the ghosts of its keeper (the
-- project's own).
use Rattle.std.specs.Prelude.{◌≡◌, List, Option, Result, IsOkAnd}
use Rattle.acceptor.specs.Storing.{stored_after, log_after}
use Rattle.acceptor.specs.declared.{entry.Entry.Entry, stored.Change.Change, stored.Stored.Stored}
use Rattle.proposer.specs.declared.fault.Refusal.{Refusal}
use Rattle.learner.specs.{Desks.Desk, Steps.Done}
use Rattle.store.specs.Keeping.{HoldsOnly, HoldsEither, FindsOldOrKept}
use Rattle.store.specs.{Ranges.IsFit, declared.keeper.Keeper.Ghosts}

-- the keeper keeps this desk's state
abbrev pub KeepsDesk : {K : Type 0} → Ghosts K → K → Desk → Type 0
KeepsDesk k keeper x = k.is_honest keeper → k.keeps keeper x.stored x.log

-- a store that is settled and then opened again holds this desk's state alone
abbrev pub HoldsDesk : {K : Type 0} → Ghosts K → K → Desk → Type 0
HoldsDesk k keeper x =
    k.is_honest keeper → HoldsOnly (k.may_hold keeper) (k.may_break keeper) x.stored x.log

-- a store that is opened again holds the state before the step or the one after it
abbrev pub HoldsBeforeOrAfter : (Stored → List Entry → Type 0) → Type 0 → Desk
    → Result Done Refusal → Type 0
HoldsBeforeOrAfter may_hold may_break x step =
    IsOkAnd step (λ r. HoldsEither may_hold may_break x.stored x.log r.desk.stored r.desk.log)

-- so it is of this keeper's store
abbrev pub HoldsStep : {K : Type 0} → Ghosts K → K → Desk → Result Done Refusal → Type 0
HoldsStep k keeper x step =
    k.is_honest keeper → HoldsBeforeOrAfter (k.may_hold keeper) (k.may_break keeper) x step

-- An opening finds what it could find before, or nothing waits, and it finds what the store may
-- hold.
abbrev pub FindsOldOrHeld : {K : Type 0} → Ghosts K → K → K → Type 0
FindsOldOrHeld k old new =
    k.is_honest new → FindsOldOrKept (k.finds old) (k.finds new) (k.may_hold new) (k.is_settled new)

-- ---- a change, where the keeper kept a state before it, and the state after it is in its ranges

-- it is that state that is kept afterwards
abbrev pub KeepsAfter : {K : Type 0} → Ghosts K → K → Option Change → K → Type 0
KeepsAfter k old change new =
    k.is_honest new → (s : Stored) (log : List Entry) → k.keeps old s log
    → IsFit (k.home_of old).desks (stored_after s change) (log_after log change)
    → k.keeps new (stored_after s change) (log_after log change)

-- it is the one before the change
abbrev pub KeepsBefore : {K : Type 0} → Ghosts K → K → Option Change → K → Type 0
KeepsBefore k old change new =
    k.is_honest new → (s : Stored) (log : List Entry) → k.keeps old s log
    → IsFit (k.home_of old).desks (stored_after s change) (log_after log change) → k.keeps new s log

-- a store that is opened again holds one of the two
abbrev pub HoldsOneOf : {K : Type 0} → Ghosts K → K → Option Change → K → Type 0
HoldsOneOf k old change new =
    k.is_honest new → (s : Stored) (log : List Entry) → k.keeps old s log
    → IsFit (k.home_of old).desks (stored_after s change) (log_after log change)
    → HoldsEither (k.may_hold new) (k.may_break new) s log
    (stored_after s change) (log_after log change)

-- ---- a load

-- the desk that was loaded has the state that the keeper kept
abbrev pub HasKept : {K : Type 0} → Ghosts K → K → K → Desk → Type 0
HasKept k old new x =
    k.is_honest new → (s : Stored) (log : List Entry) → k.keeps old s log
    → (x.stored ≡ s) × (x.log ≡ log)

-- the keeper still keeps what it kept
abbrev pub KeepsStill : {K : Type 0} → Ghosts K → K → K → Type 0
KeepsStill k old new =
    k.is_honest new → (s : Stored) (log : List Entry) → k.keeps old s log → k.keeps new s log

-- its store holds nothing that it could not hold before
abbrev pub HoldsNoOther : {K : Type 0} → Ghosts K → K → K → Type 0
HoldsNoOther k old new =
    k.is_honest new → (s : Stored) (log : List Entry) → k.may_hold new s log → k.may_hold old s log
