-- When an entry was submitted (the project's own).
use Rattle.std.specs.Prelude.{ℕ, ◌≡◌, IsOk, List, Some, slice_get, take}
use Rattle.acceptor.specs.declared.entry.Entry.{Entry}
use Rattle.learner.specs.{declared.event.DeskEvent.TheVariants.Submit, Steps.IsDesk, Steps.step}
use Rattle.learner.specs.declared.event.WorldEvent.{WorldEvent, TheVariants.Submit as SubmitAt}
use Rattle.learner.specs.Worlds.{World, after}

-- there is such a desk, and it takes the entry: it is neither Busy nor is its log full
pub record IsTaken (n : ℕ) (w : World) (d : ℕ) (e : Entry) : Type 0 where
  pub ours : IsDesk n d
  pub taken : IsOk (step n d (w.desks d) (Submit e))

-- an event of the list submits the entry to a desk that takes it
pub record IsSubmitted (n : ℕ) (events : List WorldEvent) (e : Entry) : Type 0 where
  pub at : ℕ
  pub desk : ℕ
  pub event : slice_get events at ≡ Some (SubmitAt desk e)
  pub taken : IsTaken n (after n (take at events)) desk e
