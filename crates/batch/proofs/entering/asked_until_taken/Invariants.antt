use Rattle.std.proofs.Common.{false}
use Rattle.batch.specs.{Dialing.place_of, Asking.AreTries, Asking.Asks, model.Keeping.standing}
use Rattle.batch.specs.{Asking.IsFull, Watching.Tells, Watching.waits_of, Watching.watched}
use Rattle.batch.proofs.entering.asked_until_taken.Given as goal

-- the desk's queue was full each time, of which the observer was told, and the desk was ticked
abbrev pub invariant-loop-tries : goal.invariant-loop-tries
invariant-loop-tries g l =
    Asks (place_of l.contact) (standing g.D.Dial.dialed l.initial.dial l.initial.made)
    (standing g.D.Dial.dialed l.dial l.made) (AreTries (IsFull l.submit) l.receiver false l.tries)
    × Tells (watched g.V.Watch.heard l.initial.watch l.watch) (waits_of l.tries)
