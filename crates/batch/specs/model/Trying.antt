-- Requests that are made again and again, in a call.
use Rattle.std.specs.Prelude.{◌≡◌, ◌+◌, ℕ, Bool, List, length}
use Rattle.std.specs.List.{AllByRecursion}
use Rattle.wire.specs.declared.frame.FrameBody.{FrameBody}
use Rattle.batch.specs.Asking.{Asked, IsAnswer, IsPending, IsTicked, IsUnknown, ask_of, ticks_in}
use Rattle.batch.specs.declared.{fault.BatchFault.BatchFault, asking.Receiver.Receiver}
use Rattle.batch.specs.declared.fault.BatchFault.TheVariants as fault

-- the ticks after a try, counted from 0: one or none
abbrev pub AreTicks : Receiver → Bool → ℕ → List Asked → Type 0
AreTicks r waits tries asked =
    AllByRecursion (IsTicked r) asked
    × (ticks_in waits tries + length asked ≡ ticks_in waits (tries + 1))

-- the desk knew nothing of the command, or did not decide it
abbrev pub IsUndecided : BatchFault → Receiver → ℕ → Type 0
IsUndecided fault.Lost r id = (told : FrameBody) × IsAnswer (ask_of r id) told × IsUnknown told
IsUndecided fault.StillPending r id =
    (told : FrameBody) × IsAnswer (ask_of r id) told × IsPending told
IsUndecided _ r id = ⊥
