use Rattle.std.proofs.Common.{rules, ◌≡◌, refl, ap, ◌∙◌}
use Rattle.serving.specs.{Answering.answer_first, declared.calls.NodeAnswer.TheVariants.Taken}
use Rattle.serving.specs.{Serving.enter, declared.request.Request.TheVariants.Entered}
use Rattle.serving.{proofs.Answered.fails, proofs.Parts.given_err, specs.Making.speaking}
use Rattle.serving.proofs.Entering.{entered_lost, entered_part, entered_all, entered_not}
use Rattle.wire.specs.declared.frame.FrameBody.TheVariants as what
use Rattle.serving.proofs.session.Session.enter.Goals as goal

pub returns-in_err-answer-clause-err : goal.returns-in_err-answer-clause-err
returns-in_err-answer-clause-err g c =
    given_err c.from_residual.result
    (fails c.args.self.home (enter c.args.self.home c.args.entry) (Entered c.args.entry) _ _ _ _
    (λ fates. refl)
    (entered_lost (speaking g.D.Desk.handles g.D.Desk.settles c.args.self.wire) c.args.self.home
    (g.D.Desk.home_of c.args.node.now) c.args.entry _ _
    c.args.node.now c.call.new.node (g.P.Peers.handed c.args.peers.now) c.requires.home
    c.in_err-answer.ensures.err))

pub returns-then-ne-clause-ok : goal.returns-then-ne-clause-ok
returns-then-ne-clause-ok g c =
    let other : (c.in_ok-answer.answer ≡ Taken) → ⊥ = search rules in
    entered_not (speaking g.D.Desk.handles g.D.Desk.settles c.args.self.wire) c.args.self.home
    (g.D.Desk.home_of c.args.node.now) c.args.entry
    (g.D.Desk.seen c.args.node.now) (g.D.Desk.seen c.call.new.node)
    c.new-waiting.result.items c.call.new.waiting.items c.in_ok-answer.answer c.answer_first.result
    c.args.node.now c.call.new.node (g.P.Peers.handed c.args.peers.now)
    c.requires.home c.new-waiting.ensures.items other c.in_ok-answer.ensures.ok
    (c.answer_first.ensures.what
    ∙ ap (λ z. answer_first (what.Taken z) c.in_ok-answer.answer (g.D.Desk.seen c.call.new.node))
    c.id-id.ensures.id)

pub returns-in_err-start-clause-err : goal.returns-in_err-start-clause-err
returns-in_err-start-clause-err g c =
    let taken : c.in_ok-answer.answer ≡ Taken = search rules in
    given_err c.from_residual-in_err-start.result
    (fails c.args.self.home (enter c.args.self.home c.args.entry) (Entered c.args.entry) _ _ _ _
    (λ fates. refl)
    (entered_part (speaking g.D.Desk.handles g.D.Desk.settles c.args.self.wire) c.args.self.home
    (g.D.Desk.home_of c.args.node.now) c.args.entry
    (g.D.Desk.seen c.args.node.now) (g.D.Desk.seen c.call.new.node) (g.D.Desk.seen c.start.new.node)
    c.new-waiting.result.items c.call.new.waiting.items c.in_ok-answer.answer
    c.args.node.now c.call.new.node (g.P.Peers.handed c.args.peers.now) _
    c.requires.home c.new-waiting.ensures.items taken c.in_ok-answer.ensures.ok
    c.in_err-start.ensures.err))

pub returns-clause-ok : goal.returns-clause-ok
returns-clause-ok g c =
    let taken : c.in_ok-answer.answer ≡ Taken = search rules in
    entered_all (speaking g.D.Desk.handles g.D.Desk.settles c.args.self.wire) c.args.self.home
    (g.D.Desk.home_of c.args.node.now) c.args.entry
    (g.D.Desk.seen c.args.node.now) (g.D.Desk.seen c.call.new.node) (g.D.Desk.seen c.start.new.node)
    c.new-waiting.result.items c.call.new.waiting.items c.start.new.waiting.items
    c.in_ok-answer.answer c.answer_first-2.result
    c.args.node.now c.call.new.node (g.P.Peers.handed c.args.peers.now) _
    c.requires.home c.new-waiting.ensures.items c.in_ok-start.ensures.empty taken
    c.in_ok-answer.ensures.ok c.in_ok-start.ensures.ok (c.answer_first-2.ensures.what
    ∙ ap (λ z. answer_first (what.Taken z) c.in_ok-answer.answer (g.D.Desk.seen c.start.new.node))
    c.id-id.ensures.id)
