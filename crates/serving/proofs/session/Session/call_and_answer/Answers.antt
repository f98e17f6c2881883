use Rattle.std.proofs.Common.{◌≡◌, sym, subst, ◌∙◌, [], rules}
use Rattle.serving.specs.Making.{outside_of, speaking}
use Rattle.serving.specs.model.Reaching.{DoesPart, at}
use Rattle.serving.proofs.Parts.{on_err, given_err, part_pushes}
use Rattle.serving.proofs.{Reached.on_ok, Reached.pushes_all, Told.tells_others, Told.tells_part}
use Rattle.serving.proofs.Told.{none_of, told_first, tells_lost, tells_no_run, tells_run}
use Rattle.serving.proofs.session.Session.call_and_answer.Goals as goal

pub returns-in_err-call-clause-err : goal.returns-in_err-call-clause-err
returns-in_err-call-clause-err g c =
    given_err c.from_residual.result
    (tells_lost (speaking g.D.Desk.handles g.D.Desk.settles c.args.self.wire) c.args.self.home
    (g.D.Desk.home_of c.args.node.now)
    c.args.message (g.D.Desk.seen c.args.node.now) (g.D.Desk.seen c.call.new.node)
    c.args.node.now c.call.new.node (g.P.Peers.handed c.args.peers.now) c.requires.home
    c.in_err-call.ensures.err)

pub returns-in_err-run-clause-err : goal.returns-in_err-run-clause-err
returns-in_err-run-clause-err g c =
    let called = c.in_ok-call.ensures.ok in
    given_err c.from_residual-in_err-run.result
    (tells_no_run (speaking g.D.Desk.handles g.D.Desk.settles c.args.self.wire) c.args.self.home
    (g.D.Desk.home_of c.args.node.now)
    c.args.message (g.D.Desk.seen c.args.node.now) (g.D.Desk.seen c.call.new.node)
    c.new-waiting.result.items c.call.new.waiting.items c.in_ok-call.field-0 c.args.node.now
    c.call.new.node (g.P.Peers.handed c.args.peers.now) c.requires.home c.new-waiting.ensures.items
    called.0 called.1 called.2)

pub returns-in-Some-clause-ok : goal.returns-in-Some-clause-ok
returns-in-Some-clause-ok g c =
    let called = c.in_ok-call.ensures.ok in
    let kept : c.deref.result.now ≡ c.call.new.waiting.items = search rules in
    on_ok c.push_run.result (λ handed again.
    tells_run (speaking g.D.Desk.handles g.D.Desk.settles c.args.self.wire) c.args.self.home
    (g.D.Desk.home_of c.args.node.now)
    c.args.message (g.D.Desk.seen c.args.node.now) (g.D.Desk.seen c.call.new.node)
    c.new-waiting.result.items c.call.new.waiting.items c.deref.result.now
    c.in_ok-call.field-0 c.in-Some.run' c.args.node.now c.call.new.node
    (g.P.Peers.handed c.args.peers.now) (g.P.Peers.handed c.push_run.new.peers) c.requires.home
    c.new-waiting.ensures.items kept (sym c.in-Some.is ∙ c.in_ok-run.ensures.run) called.0 called.1
    called.2 handed) c.push_run.ensures.ok c.push_run.ensures.ok

pub returns-in-Some-clause-err : goal.returns-in-Some-clause-err
returns-in-Some-clause-err g c =
    let called = c.in_ok-call.ensures.ok in
    let x = g.D.Desk.seen c.args.node.now in
    let y = g.D.Desk.seen c.call.new.node in
    on_err c.push_run.result (λ same.
    subst (λ q. DoesPart c.args.self.home (told_first c.args.self.home c.args.message) (at x []) y
    (outside_of (speaking g.D.Desk.handles g.D.Desk.settles c.args.self.wire) c.args.node.now
    (g.P.Peers.handed c.args.peers.now))
    (outside_of (speaking g.D.Desk.handles g.D.Desk.settles c.args.self.wire) c.call.new.node
    (g.P.Peers.handed q))) (sym same)
    (tells_no_run (speaking g.D.Desk.handles g.D.Desk.settles c.args.self.wire) c.args.self.home
    (g.D.Desk.home_of c.args.node.now)
    c.args.message x y c.new-waiting.result.items c.call.new.waiting.items c.in_ok-call.field-0
    c.args.node.now c.call.new.node (g.P.Peers.handed c.args.peers.now) c.requires.home
    c.new-waiting.ensures.items called.0 called.1 called.2)) c.push_run.ensures.err

pub returns-clause-ok : goal.returns-clause-ok
returns-clause-ok g c =
    let way = speaking g.D.Desk.handles g.D.Desk.settles c.args.self.wire in
    let y = g.D.Desk.seen c.call.new.node in
    let called = c.in_ok-call.ensures.ok in
    let kept : c.deref.result.now ≡ c.call.new.waiting.items = search rules in
    let lined : c.from-waiting.result.items ≡ c.deref.result.now = search rules in
    on_ok c.push_all.result (λ pushed empty.
    tells_others way c.args.self.home (g.D.Desk.home_of c.args.node.now) c.args.message
    (g.D.Desk.seen c.args.node.now) y y c.new-waiting.result.items c.call.new.waiting.items
    c.deref.result.now c.from-waiting.result.items c.push_all.new.waiting.items
    c.in_ok-call.field-0 c.args.node.now c.call.new.node (g.P.Peers.handed c.args.peers.now) _
    c.requires.home c.new-waiting.ensures.items kept lined empty
    (sym (none_of _ c.in_default.not-Some) ∙ c.in_ok-run.ensures.run) called.0 called.1 called.2
    (pushes_all way c.args.self.home y c.from-waiting.result.items c.push_all.new.waiting.items
    c.call.new.node (g.P.Peers.handed c.args.peers.now) (g.P.Peers.handed c.push_all.new.peers)
    empty pushed)) c.push_all.ensures.pushed c.push_all.ensures.empty

pub returns-clause-err : goal.returns-clause-err
returns-clause-err g c =
    let way = speaking g.D.Desk.handles g.D.Desk.settles c.args.self.wire in
    let y = g.D.Desk.seen c.call.new.node in
    let called = c.in_ok-call.ensures.ok in
    let kept : c.deref.result.now ≡ c.call.new.waiting.items = search rules in
    let lined : c.from-waiting.result.items ≡ c.deref.result.now = search rules in
    on_err c.push_all.result (λ part.
    tells_part way c.args.self.home (g.D.Desk.home_of c.args.node.now) c.args.message
    (g.D.Desk.seen c.args.node.now) y y c.new-waiting.result.items c.call.new.waiting.items
    c.deref.result.now c.from-waiting.result.items c.in_ok-call.field-0
    c.args.node.now c.call.new.node (g.P.Peers.handed c.args.peers.now) _ c.requires.home
    c.new-waiting.ensures.items kept lined
    (sym (none_of _ c.in_default.not-Some) ∙ c.in_ok-run.ensures.run) called.0 called.1 called.2
    (part_pushes way c.args.self.home y c.from-waiting.result.items c.call.new.node
    (g.P.Peers.handed c.args.peers.now) (g.P.Peers.handed c.push_all.new.peers) part))
    c.push_all.ensures.err
