use Rattle.std.proofs.Common.{false}
use Rattle.http_server.specs.Connection.{history}
use Rattle.pages.proofs.Hearing.{Hears-nothing, Hears-same}
use Rattle.pages.proofs.turns.hear_the_end.Goals as goal

pub returns-in-Ok-clause-hears : goal.returns-in-Ok-clause-hears
returns-in-Ok-clause-hears c =
    let came = c.in-Ok.ensures.ok in
    Hears-nothing came.0 c.read_from.new.reader.now (history c.args.connection.now)
    (history c.read_from.new.self) came.2 came.3

pub returns-in-Err-clause-hears : goal.returns-in-Err-clause-hears
returns-in-Err-clause-hears c =
    Hears-same false (history c.args.connection.now) (history c.read_from.new.self)
    c.in-Err.ensures.err.0
