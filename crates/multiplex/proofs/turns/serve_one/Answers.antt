use Rattle.std.proofs.Common.{[], Some}
use Rattle.multiplex.proofs.Walking.{may_known, one_serves, put_off_serves}
use Rattle.multiplex.proofs.turns.serve_one.Goals as goal

pub returns-then-not-may_begin-clause-served : goal.returns-then-not-may_begin-clause-served
returns-then-not-may_begin-clause-served g c =
    put_off_serves g.D.Desk g.P.Peers Some c.args.number c.args.time
    c.args.dear.now.spent c.may_begin.new.dear.spent c.args.notes.now c.may_begin.new.notes
    c.args.node.now c.args.peers.now [] c.args.talk.now c.if-not-may_begin.ensures

pub returns-then-not-may_begin-clause-known : goal.returns-then-not-may_begin-clause-known
returns-then-not-may_begin-clause-known g c = may_known _ _ _ _ _ _ _ _ _ c.may_begin.ensures

pub returns-clause-served : goal.returns-clause-served
returns-clause-served g c =
    one_serves g.D.Desk g.P.Peers Some c.args.number c.args.time c.args.differs c.advance.result
    c.args.dear.now.spent c.may_begin.new.dear.spent c.args.notes.now c.may_begin.new.notes
    c.args.node.now c.advance.new.node c.args.peers.now c.advance.new.peers [] c.args.talk.now
    c.advance.new.self c.requires.home c.if-not-may_begin.ensures c.advance.ensures.turn

pub returns-clause-known : goal.returns-clause-known
returns-clause-known g c = may_known _ _ _ _ _ _ _ _ _ c.may_begin.ensures
