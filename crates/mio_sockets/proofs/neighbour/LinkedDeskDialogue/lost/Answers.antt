use Rattle.std.proofs.Common.{refl}
use Rattle.mio_sockets.proofs.neighbour.LinkedDeskDialogue.lost.Goals as goal

pub returns-then-ended-clause-leads : goal.returns-then-ended-clause-leads
returns-then-ended-clause-leads c =
    rw (← c.self.view_is) (rw c.if-ended.true
    (record { desk = refl; time = refl; answers = tt; goes = (_, c.ended.ensures, refl) }))

pub returns-clause-leads : goal.returns-clause-leads
returns-clause-leads c =
    rw (← c.self.view_is) (rw c.if-ended.false
    (record { desk = refl; time = refl; answers = tt; goes = (_, c.failed.ensures, refl) }))
