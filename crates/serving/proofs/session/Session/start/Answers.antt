use Rattle.learner.specs.declared.event.DeskEvent.TheVariants.{Start}
use Rattle.serving.{specs.Making.speaking, proofs.Reached.on_ok, proofs.Reached.pushes_all}
use Rattle.serving.proofs.{Reached.does_behind, Parts.part_at_behind, Parts.part_after_behind}
use Rattle.serving.proofs.Parts.{on_err, given_err, part_pushes}
use Rattle.serving.proofs.session.Session.start.Goals as goal

pub returns-clause-ok : goal.returns-clause-ok
returns-clause-ok g c =
    let way = speaking g.D.Desk.handles g.D.Desk.settles c.args.self.wire in
    let home = c.args.self.home in
    let y = g.D.Desk.seen c.call.new.node in
    let called = c.in_ok-call.ensures.ok in
    on_ok c.push_all.result (λ pushed empty. does_behind way home (g.D.Desk.home_of c.args.node.now)
    (g.D.Desk.seen c.args.node.now) y y Start c.args.waiting.now.items c.call.new.waiting.items
    c.push_all.new.waiting.items _ c.args.node.now c.call.new.node
    (g.P.Peers.handed c.args.peers.now) _ c.requires.home called.0 called.1 called.2
    (pushes_all way home y c.call.new.waiting.items c.push_all.new.waiting.items c.call.new.node
    (g.P.Peers.handed c.args.peers.now) (g.P.Peers.handed c.push_all.new.peers) empty pushed))
    c.push_all.ensures.pushed c.push_all.ensures.empty

pub returns-in_err-call-clause-err : goal.returns-in_err-call-clause-err
returns-in_err-call-clause-err g c =
    given_err c.from_residual.result
    (part_at_behind (speaking g.D.Desk.handles g.D.Desk.settles c.args.self.wire) c.args.self.home
    (g.D.Desk.home_of c.args.node.now)
    (g.D.Desk.seen c.args.node.now) (g.D.Desk.seen c.call.new.node) Start
    c.args.waiting.now.items c.args.node.now c.call.new.node (g.P.Peers.handed c.args.peers.now)
    c.requires.home c.in_err-call.ensures.err)

pub returns-clause-err : goal.returns-clause-err
returns-clause-err g c =
    let way = speaking g.D.Desk.handles g.D.Desk.settles c.args.self.wire in
    let home = c.args.self.home in
    let y = g.D.Desk.seen c.call.new.node in
    let called = c.in_ok-call.ensures.ok in
    on_err c.push_all.result (λ part. part_after_behind way home (g.D.Desk.home_of c.args.node.now)
    (g.D.Desk.seen c.args.node.now) y y Start c.args.waiting.now.items c.call.new.waiting.items _
    c.args.node.now c.call.new.node (g.P.Peers.handed c.args.peers.now) _ c.requires.home called.0
    called.1 called.2 (part_pushes way home y c.call.new.waiting.items c.call.new.node
    (g.P.Peers.handed c.args.peers.now) (g.P.Peers.handed c.push_all.new.peers) part))
    c.push_all.ensures.err
