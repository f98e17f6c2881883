use Rattle.std.proofs.Common.{[]}
use Rattle.serving.{specs.Making.speaking, proofs.Reached.does_call, proofs.Reached.pushes_all}
use Rattle.serving.proofs.Parts.{given_err, part_after_call, part_at_behind, part_pushes}
use Rattle.serving.proofs.session.Session.call_and_push.Goals as goal

pub returns-clause-ok : goal.returns-clause-ok
returns-clause-ok g c =
    let way = speaking g.D.Desk.handles g.D.Desk.settles c.args.self.wire in
    let home = c.args.self.home in
    let y = g.D.Desk.seen c.call.new.node in
    let called = c.in_ok-answer.ensures.ok in
    does_call way home (g.D.Desk.home_of c.args.node.now) (g.D.Desk.seen c.args.node.now) y y
    c.args.event c.new-waiting.result.items c.call.new.waiting.items c.push_all.new.waiting.items
    c.in_ok-answer.answer c.args.node.now c.call.new.node (g.P.Peers.handed c.args.peers.now) _
    c.requires.home c.new-waiting.ensures.items c.in_ok-push_all.ensures.empty called.0 called.1
    called.2
    (pushes_all way home y c.call.new.waiting.items c.push_all.new.waiting.items c.call.new.node
    (g.P.Peers.handed c.args.peers.now) (g.P.Peers.handed c.push_all.new.peers)
    c.in_ok-push_all.ensures.empty c.in_ok-push_all.ensures.pushed)

pub returns-in_err-answer-clause-err : goal.returns-in_err-answer-clause-err
returns-in_err-answer-clause-err g c =
    given_err c.from_residual.result
    (part_at_behind (speaking g.D.Desk.handles g.D.Desk.settles c.args.self.wire) c.args.self.home
    (g.D.Desk.home_of c.args.node.now) (g.D.Desk.seen c.args.node.now)
    (g.D.Desk.seen c.call.new.node) c.args.event [] c.args.node.now c.call.new.node
    (g.P.Peers.handed c.args.peers.now) c.requires.home c.in_err-answer.ensures.err)

pub returns-in_err-push_all-clause-err : goal.returns-in_err-push_all-clause-err
returns-in_err-push_all-clause-err g c =
    let way = speaking g.D.Desk.handles g.D.Desk.settles c.args.self.wire in
    let home = c.args.self.home in
    let y = g.D.Desk.seen c.call.new.node in
    let called = c.in_ok-answer.ensures.ok in
    given_err c.from_residual-in_err-push_all.result
    (part_after_call way home (g.D.Desk.home_of c.args.node.now) (g.D.Desk.seen c.args.node.now) y
    y c.args.event c.new-waiting.result.items c.call.new.waiting.items c.in_ok-answer.answer
    c.args.node.now c.call.new.node (g.P.Peers.handed c.args.peers.now) _ c.requires.home
    c.new-waiting.ensures.items called.0 called.1 called.2
    (part_pushes way home y c.call.new.waiting.items c.call.new.node
    (g.P.Peers.handed c.args.peers.now) (g.P.Peers.handed c.push_all.new.peers)
    c.in_err-push_all.ensures.err))
