use Rattle.batch.{specs.Dialing.place_of, specs.model.Keeping.standing, proofs.Entered.AreEntered}
use Rattle.batch.proofs.lines_entered.enter_lines_over.Given as goal

-- the commands so far are entered
abbrev pub invariant-loop-number : goal.invariant-loop-number
invariant-loop-number g l =
    AreEntered (place_of l.contact) l.batch l.commands l.number
    (g.W.Write.contents l.initial.writer) (g.W.Write.contents l.writer)
    (g.V.Watch.heard l.initial.watch) (g.V.Watch.heard l.watch)
    (standing g.D.Dial.dialed l.initial.dial l.initial.made)
    (standing g.D.Dial.dialed l.dial l.made)
