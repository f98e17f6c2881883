use Rattle.std.proofs.Common.{◌≡◌, Some, rules}
use Rattle.desk_sockets.proofs.Answering.{hears_nothing}
use Rattle.desk_sockets.proofs.socket_connection.SocketConnection.is_open.Goals as goal

pub returns-in_default-clause-who : goal.returns-in_default-clause-who
returns-in_default-clause-who g c = rw (← c.self.view_is) hears_nothing

pub returns-clause-who : goal.returns-clause-who
returns-clause-who g c =
    let there : c.self.inside.stream ≡ Some c.in-Some.stream = search rules in
    rw (← c.self.view_is) (rw there c.is_open-open.ensures.who)
