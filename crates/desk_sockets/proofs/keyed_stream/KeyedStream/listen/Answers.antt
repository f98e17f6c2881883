use Rattle.desk_sockets.proofs.Answering.{hears_nothing, hears_these}
use Rattle.desk_sockets.proofs.keyed_stream.KeyedStream.listen.Goals as goal

pub returns-then-not-doubted-clause-who : goal.returns-then-not-doubted-clause-who
returns-then-not-doubted-clause-who g c = hears_nothing

pub returns-clause-who : goal.returns-clause-who
returns-clause-who g c = hears_these c.hear-outcome.ensures.hands
