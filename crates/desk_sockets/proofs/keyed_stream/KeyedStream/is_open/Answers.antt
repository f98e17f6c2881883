use Rattle.std.proofs.Common.{refl}
use Rattle.desk_sockets.proofs.{Answering.hears_nothing, Reading.hears_sent}
use Rattle.desk_sockets.proofs.keyed_stream.KeyedStream.is_open.Goals as goal

pub returns-in-Err-NotConnected-clause-who : goal.returns-in-Err-NotConnected-clause-who
returns-in-Err-NotConnected-clause-who g c = hears_nothing

pub returns-in-Err : goal.returns-in-Err
returns-in-Err g c = record { key = refl; who = hears_nothing }

pub returns-in_default-clause-who : goal.returns-in_default-clause-who
returns-in_default-clause-who g c = hears_nothing

pub returns-in-Err-send-clause-who : goal.returns-in-Err-send-clause-who
returns-in-Err-send-clause-who g c = hears_nothing

pub returns-in_err-listen-clause-who : goal.returns-in_err-listen-clause-who
returns-in_err-listen-clause-who g c = hears_sent c.send.ensures.sent c.listen.ensures.who

pub returns-in_err-ask-clause-who : goal.returns-in_err-ask-clause-who
returns-in_err-ask-clause-who g c = hears_sent c.send.ensures.sent c.listen.ensures.who

pub returns-clause-who : goal.returns-clause-who
returns-clause-who g c = hears_sent c.send.ensures.sent c.listen.ensures.who
