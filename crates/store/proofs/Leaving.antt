-- What a keeper keeps is what an opening finds, whatever a save answered.
use Rattle.std.proofs.Common.{List, Result, Ok, Err}
use Rattle.acceptor.specs.declared.{entry.Entry.Entry, stored.Stored.Stored, stored.Change.Change}
use Rattle.store.specs.{declared.fault.SaveFault.SaveFault, Keeping.HoldsOnly, Keeping.Leaves}
use Rattle.store.specs.declared.fault.SaveFault.TheVariants.{Device, NoMemory, Down}

module _ (keeps may_hold : Stored → List Entry → Type 0) (may_break : Type 0) (s : Stored)
    (log : List Entry) (change : Change) where
  pub leaves_alone : (r : Result (Unit {0}) SaveFault)
      → ((t : Stored) (more : List Entry) → keeps t more → HoldsOnly may_hold may_break t more)
      → Leaves keeps may_hold may_break s log change r
      → Leaves (HoldsOnly may_hold may_break) may_hold may_break s log change r
  leaves_alone (Ok _) alone kept = alone _ _ kept
  leaves_alone (Err NoMemory) alone kept = alone _ _ kept
  leaves_alone (Err Device) alone either = either
  leaves_alone (Err Down) alone never = never
