use Rattle.serving.{specs.Making.speaking, specs.Serving.learn, proofs.Reached.pushes_all}
use Rattle.serving.proofs.Delivered.{pushes_then, pushes_part, delivers_part}
use Rattle.serving.proofs.{Parts.on_err, Parts.given_err, Parts.part_pushes, Reached.on_ok}
use Rattle.serving.proofs.session.Session.learn_and_push.Goals as goal

pub returns-in_err-deliver_each-clause-err : goal.returns-in_err-deliver_each-clause-err
returns-in_err-deliver_each-clause-err g c =
    let r = c.args.run in
    given_err c.from_residual.result
    (delivers_part c.args.self.home (learn c.args.self.home r.from r.to r.pos r.entries)
    (g.D.Desk.seen c.args.node.now) (g.D.Desk.seen c.deliver_each.new.node)
    c.new-waiting.result.items _ _ c.new-waiting.ensures.items
    (c.in_err-deliver_each.ensures.err c.args.self.wire (g.P.Peers.handed c.args.peers.now)))

pub returns-clause-ok : goal.returns-clause-ok
returns-clause-ok g c =
    let r = c.args.run in
    let way = speaking g.D.Desk.handles g.D.Desk.settles c.args.self.wire in
    let y = g.D.Desk.seen c.deliver_each.new.node in
    on_ok c.push_all.result (λ pushed empty. pushes_then c.args.self.home
    (learn c.args.self.home r.from r.to r.pos r.entries) (g.D.Desk.seen c.args.node.now) y y
    c.new-waiting.result.items c.deliver_each.new.waiting.items c.push_all.new.waiting.items _ _ _
    c.new-waiting.ensures.items empty
    (c.in_ok-deliver_each.ensures.ok c.args.self.wire (g.P.Peers.handed c.args.peers.now))
    (pushes_all way c.args.self.home y c.deliver_each.new.waiting.items
    c.push_all.new.waiting.items c.deliver_each.new.node (g.P.Peers.handed c.args.peers.now)
    (g.P.Peers.handed c.push_all.new.peers) empty pushed))
    c.push_all.ensures.pushed c.push_all.ensures.empty

pub returns-clause-err : goal.returns-clause-err
returns-clause-err g c =
    let r = c.args.run in
    let way = speaking g.D.Desk.handles g.D.Desk.settles c.args.self.wire in
    let y = g.D.Desk.seen c.deliver_each.new.node in
    on_err c.push_all.result
    (λ part. pushes_part c.args.self.home (learn c.args.self.home r.from r.to r.pos r.entries)
    (g.D.Desk.seen c.args.node.now) y y c.new-waiting.result.items
    c.deliver_each.new.waiting.items _ _ _ c.new-waiting.ensures.items
    (c.in_ok-deliver_each.ensures.ok c.args.self.wire (g.P.Peers.handed c.args.peers.now))
    (part_pushes way c.args.self.home y c.deliver_each.new.waiting.items c.deliver_each.new.node
    (g.P.Peers.handed c.args.peers.now) (g.P.Peers.handed c.push_all.new.peers) part))
    c.push_all.ensures.err
