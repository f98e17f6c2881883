use Rattle.std.proofs.Common.{◌≡◌, Some, rules}
use Rattle.desk_sockets.proofs.Answering.{hands_none}
use Rattle.desk_sockets.proofs.socket_connection.SocketConnection.read.Goals as goal

pub returns-in_default-clause-who : goal.returns-in_default-clause-who
returns-in_default-clause-who g c = rw (← c.self.view_is) hands_none

pub returns-clause-who : goal.returns-clause-who
returns-clause-who g c =
    let there : c.self.inside.stream ≡ Some c.in-Some.stream = search rules in
    rw (← c.self.view_is) (rw there c.hear_on-came.ensures.hands)
