use Rattle.std.proofs.Common.{refl}
use Rattle.mio_sockets.proofs.neighbour.LinkedDeskDialogue.hear.Goals as goal

pub returns-clause-leads : goal.returns-clause-leads
returns-clause-leads c = record { desk = refl; time = refl; answers = refl; goes = refl }
