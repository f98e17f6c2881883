use Rattle.batch.specs.{Dialing.place_of, model.Keeping.standing}
use Rattle.batch.specs.Asking.{AreTries, Asks, IsWaiting, ask_of}
use Rattle.batch.specs.Watching.{Tells, waits_of, watched}
use Rattle.batch.proofs.entering.decided.Given as goal

-- the command wasn't decided each time, of which the observer was told, and the desk was ticked
abbrev pub invariant-loop-tries : goal.invariant-loop-tries
invariant-loop-tries g l =
    Asks (place_of l.contact) (standing g.D.Dial.dialed l.initial.dial l.initial.made)
    (standing g.D.Dial.dialed l.dial l.made)
    (AreTries (IsWaiting (ask_of l.receiver l.id)) l.receiver l.receiver.awaits l.tries)
    × Tells (watched g.V.Watch.heard l.initial.watch l.watch) (waits_of l.tries)
