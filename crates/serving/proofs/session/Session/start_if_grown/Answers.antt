use Rattle.std.proofs.Common.{sym, ◌∙◌}
use Rattle.serving.proofs.{Parts.given_err, Started.starts, Started.starts_not, Started.starts_part}
use Rattle.serving.proofs.session.Session.start_if_grown.Goals as goal

pub returns-in_err-call_and_push-clause-err : goal.returns-in_err-call_and_push-clause-err
returns-in_err-call_and_push-clause-err g c =
    given_err c.from_residual.result (starts_part c.args.self.home c.args.before
    (g.D.Desk.seen c.args.node.now) _ _ _
    (sym c.grew.ensures ∙ c.if-grew.true) c.in_err-call_and_push.ensures.err)

pub returns-in_ok-call_and_push-clause-ok : goal.returns-in_ok-call_and_push-clause-ok
returns-in_ok-call_and_push-clause-ok g c =
    let did = c.in_ok-call_and_push.ensures.ok in
    starts c.args.self.home c.args.before _ (g.D.Desk.seen c.args.node.now) _ did.0
    did.1 _ _ (sym c.grew.ensures ∙ c.if-grew.true) did.2

pub returns-else-grew-clause-ok : goal.returns-else-grew-clause-ok
returns-else-grew-clause-ok g c =
    starts_not c.args.self.home c.args.before (g.D.Desk.seen c.args.node.now) _
    (sym c.grew.ensures ∙ c.if-grew.false)
