use Rattle.std.proofs.Common.{refl}
use Rattle.mio_sockets.proofs.neighbour.LinkedDeskDialogue.opened.Goals as goal

pub returns-clause-leads : goal.returns-clause-leads
returns-clause-leads c =
    rw (← c.self.view_is)
    (record { desk = refl; time = refl; answers = refl; goes = (_, c.opened.ensures, refl) })
