use Rattle.std.proofs.Common.{refl, true, false}
use Rattle.polled.proofs.Telling.{Tells-nil}
use Rattle.desk_talks.specs.Dialogues.{Lost}
use Rattle.desk_sockets.proofs.Driving.{one, quiet}
use Rattle.desk_sockets.proofs.desk_stream.end.Goals as goal

pub returns-in-Nothing-clause-makes : goal.returns-in-Nothing-clause-makes
returns-in-Nothing-clause-makes g c = rw c.in-Nothing.is refl

pub returns-in-Nothing-clause-went : goal.returns-in-Nothing-clause-went
returns-in-Nothing-clause-went g c = λ addresses. quiet (Tells-nil _)

pub returns-in-Ended-clause-makes : goal.returns-in-Ended-clause-makes
returns-in-Ended-clause-makes g c = rw c.in-Ended.is c.lose.ensures.lost

pub returns-in-Ended-clause-went : goal.returns-in-Ended-clause-went
returns-in-Ended-clause-went g c =
    λ addresses. one (Lost true) c.lose.ensures.lost c.lose.ensures.told

pub returns-in-Broke-clause-makes : goal.returns-in-Broke-clause-makes
returns-in-Broke-clause-makes g c = rw c.in-Broke.is c.lose-in-Broke.ensures.lost

pub returns-in-Broke-clause-went : goal.returns-in-Broke-clause-went
returns-in-Broke-clause-went g c =
    λ addresses. one (Lost false) c.lose-in-Broke.ensures.lost c.lose-in-Broke.ensures.told
