use Rattle.desk_sockets.proofs.{Answering.hands_none, Reading.hands_sent}
use Rattle.desk_sockets.proofs.keyed_stream.KeyedStream.hear_on.Goals as goal

pub returns-then-is_err-clause-hands : goal.returns-then-is_err-clause-hands
returns-then-is_err-clause-hands g c = hands_none

pub returns-clause-hands : goal.returns-clause-hands
returns-clause-hands g c = hands_sent c.send.ensures.sent c.hear.ensures.hands
