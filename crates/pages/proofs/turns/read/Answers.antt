use Rattle.std.proofs.Common.{true, false, take, refl}
use Rattle.http_server.specs.Connection.{history}
use Rattle.pages.proofs.Moving.{Moved-broke, Moved-ended, Moved-gave, Moved-none}
use Rattle.pages.proofs.turns.read.Goals as goal

pub returns-in-Bytes-clause-moved : goal.returns-in-Bytes-clause-moved
returns-in-Bytes-clause-moved g c =
    let happened = g.C.Sockets.happened in
    Moved-gave c.args.number c.hear.result (happened c.args.sockets.now)
    (happened c.read.new.self) (history c.args.connection.now) (history c.hear.new.connection)
    (take c.in-Bytes.count c.read.new.buffer) c.in-Bytes.ensures.told c.hear.ensures.hears

pub returns-in-Ended-clause-moved : goal.returns-in-Ended-clause-moved
returns-in-Ended-clause-moved g c =
    let happened = g.C.Sockets.happened in
    Moved-ended c.args.number c.hear_the_end.result (happened c.args.sockets.now)
    (happened c.read.new.self) (history c.args.connection.now)
    (history c.hear_the_end.new.connection) c.in-Ended.ensures.told c.hear_the_end.ensures.hears

pub returns-in-Later-clause-moved : goal.returns-in-Later-clause-moved
returns-in-Later-clause-moved g c =
    let happened = g.C.Sockets.happened in
    let same = history c.args.connection.now in
    Moved-none c.args.number true (happened c.args.sockets.now) (happened c.read.new.self) same
    same c.in-Later.ensures.told refl refl

pub returns-in-Broke-clause-moved : goal.returns-in-Broke-clause-moved
returns-in-Broke-clause-moved g c =
    let happened = g.C.Sockets.happened in
    Moved-broke c.args.number false (happened c.args.sockets.now) (happened c.read.new.self)
    (history c.args.connection.now) c.in-Broke.ensures.told
