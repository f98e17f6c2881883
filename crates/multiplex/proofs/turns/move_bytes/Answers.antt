use Rattle.multiplex.proofs.Asked.{moves_none}
use Rattle.multiplex.proofs.turns.move_bytes.Goals as goal

pub returns-clause-asks : goal.returns-clause-asks
returns-clause-asks g c =
    moves_none g.C.Sockets.requests c.args.clients.now c.args.number c.args.talk.now
    c.wants_write.result c.wants_read.result c.wants_write.ensures c.if-wants_write.false
    c.wants_read.ensures c.if-wants_read.false
