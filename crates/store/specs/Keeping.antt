-- What a keeper's store holds, and what a save leaves there (the project's own).
use Rattle.std.specs.Prelude.{◌≡◌, ◌⊎◌, ◌^◌, ◌-◌, ◌+◌, ◌<◌, ◌≢◌, ℕ, Bool, List, Some, Result, Ok}
use Rattle.std.specs.Prelude.{Err, IsTrue}
use Rattle.acceptor.specs.declared.{entry.Entry.Entry, stored.Stored.Stored, stored.Change.Change}
use Rattle.acceptor.specs.Storing.{stored_after, log_after}
use Rattle.store.specs.{declared.fault.SaveFault.SaveFault, Ranges.IsFit}
use Rattle.store.specs.declared.fault.SaveFault.TheVariants.{Device, NoMemory, Down}

-- the count at which a keeper ends
abbrev pub most_failures : ℕ
most_failures = 2 ^ 64 - 1

-- one more failure is counted, below that end
abbrev pub CountsOne : ℕ → ℕ → Type 0
CountsOne before after = (before < most_failures) × (after ≡ before + 1)

-- What counts as a failure: a refusal by the device, which leaves the keeper Down, and nothing
-- else.
abbrev pub Counts : Type 0 → ℕ → ℕ → Bool → Type 0
Counts is_refused before after is_down =
    (is_refused → (before < after) × IsTrue is_down) × (¬ is_refused → after ≡ before)

-- A load that answers Damaged has a reason: the count is at its end, where every load is Damaged,
-- or the keeper kept no state that is sound.
abbrev pub IsDamaged : Type 0 → ℕ → Type 0 → (Stored → List Entry → Type 0)
    → (Stored → List Entry → Type 0) → Type 0
IsDamaged is_damaged failures is_honest is_sound keeps =
    (failures ≡ most_failures → is_damaged)
    × (is_damaged → failures ≢ most_failures → is_honest → (s : Stored) (log : List Entry)
    → is_sound s log → ¬ keeps s log)

-- What a load gives was held by the store, and is what the keeper kept.
abbrev pub IsLoaded : (Stored → List Entry → Type 0) → (Stored → List Entry → Type 0) → Stored
    → List Entry → Type 0
IsLoaded may_hold keeps s log =
    may_hold s log × ((t : Stored) (more : List Entry) → keeps t more → (s ≡ t) × (log ≡ more))

-- An opening finds nothing afterwards that it could not find before.
abbrev pub FindsNoMore : (Stored → List Entry → Type 0) → Type 0
    → (Stored → List Entry → Type 0) → Type 0 → Type 0
FindsNoMore held broke holds breaks =
    ((s : Stored) (log : List Entry) → holds s log → held s log) × (breaks → broke)

-- An opening finds what it could find before, or nothing waits, and it finds what the store may
-- hold.
abbrev pub FindsOldOrKept : (Stored → List Entry → Type 0) → (Stored → List Entry → Type 0)
    → (Stored → List Entry → Type 0) → Type 0 → Type 0
FindsOldOrKept found finds may_hold is_settled =
    (s : Stored) (log : List Entry) → finds s log → found s log ⊎ (is_settled × may_hold s log)

-- whatever was kept still is
abbrev pub StaysKept : (Stored → List Entry → Type 0) → (Stored → List Entry → Type 0) → Type 0
StaysKept kept keeps = (s : Stored) (log : List Entry) → kept s log → keeps s log

-- Where a keeper kept a state, a settling leaves a store in which an opening finds what it found
-- before it, or what the store was to hold once it is settled.
abbrev pub SettlesFor : (Stored → List Entry → Type 0) → (Stored → List Entry → Type 0)
    → (Stored → List Entry → Type 0) → (Stored → List Entry → Type 0) → Type 0 → Type 0
SettlesFor kept found held finds breaks =
    (s : Stored) (log : List Entry) → kept s log → (¬ breaks)
    × ((t : Stored) (more : List Entry) → finds t more → found t more ⊎ held t more)

-- the state after the change is in its ranges
abbrev pub IsFitAfter : ℕ → Stored → List Entry → Change → Type 0
IsFitAfter n s log change = IsFit n (stored_after s (Some change)) (log_after log (Some change))

-- a store that is opened again holds this state and no other
pub record HoldsOnly (may_hold : Stored → List Entry → Type 0) (may_break : Type 0) (s : Stored)
    (log : List Entry) : Type 0 where
  pub holds : may_hold s log
  pub only : (t : Stored) (more : List Entry) → may_hold t more → (t ≡ s) × (more ≡ log)
  pub whole : ¬ may_break

-- a store that is opened again holds one of these two, and no other
pub record HoldsEither (may_hold : Stored → List Entry → Type 0) (may_break : Type 0) (s : Stored)
    (log : List Entry) (t : Stored) (more : List Entry) : Type 0 where
  pub only : (u : Stored) (rest : List Entry) → may_hold u rest
      → ((u ≡ s) × (rest ≡ log)) ⊎ ((u ≡ t) × (rest ≡ more))
  pub whole : ¬ may_break

-- After Ok the store holds the new state alone, after NoMemory the old one, and after Device one of
-- the two. A keeper that works is not Down.
abbrev pub Leaves : (Stored → List Entry → Type 0) → (Stored → List Entry → Type 0) → Type 0
    → Stored → List Entry → Change → Result (Unit {0}) SaveFault → Type 0
Leaves keeps may_hold may_break s log change (Ok _) =
    keeps (stored_after s (Some change)) (log_after log (Some change))
Leaves keeps may_hold may_break s log change (Err NoMemory) = keeps s log
Leaves keeps may_hold may_break s log change (Err Device) =
    HoldsEither may_hold may_break s log (stored_after s (Some change))
    (log_after log (Some change))
Leaves keeps may_hold may_break s log change (Err Down) = ⊥

-- Whatever state a keeper kept whose change is in its ranges, a save leaves what `Leaves` says.
abbrev pub LeavesOf : ℕ → (Stored → List Entry → Type 0) → (Stored → List Entry → Type 0)
    → (Stored → List Entry → Type 0) → Type 0 → Change → Result (Unit {0}) SaveFault → Type 0
LeavesOf n kept keeps may_hold may_break change r =
    (s : Stored) (log : List Entry) → kept s log → IsFitAfter n s log change
    → Leaves keeps may_hold may_break s log change r

-- the same of what an opening finds: to keep a state is to hold that one and no other
abbrev pub LeavesFound : ℕ → (Stored → List Entry → Type 0) → (Stored → List Entry → Type 0)
    → Type 0 → Change → Result (Unit {0}) SaveFault → Type 0
LeavesFound n kept may_hold may_break =
    LeavesOf n kept (HoldsOnly may_hold may_break) may_hold may_break
