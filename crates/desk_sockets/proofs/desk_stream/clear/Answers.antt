use Rattle.polled.proofs.Telling.{Tells-nil}
use Rattle.desk_sockets.proofs.desk_stream.clear.Goals as goal

pub returns-in-Closed-clause-told : goal.returns-in-Closed-clause-told
returns-in-Closed-clause-told g c = rw c.in-Closed.is (Tells-nil _)

pub returns-in-Opening-clause-told : goal.returns-in-Opening-clause-told
returns-in-Opening-clause-told g c = rw c.in-Opening.is c.close.ensures.told

pub returns-in-Open-clause-told : goal.returns-in-Open-clause-told
returns-in-Open-clause-told g c = rw c.in-Open.is c.close-in-Open.ensures.told
