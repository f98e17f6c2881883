use Rattle.std.proofs.Common.{ap, ◌∙◌, length}
use Rattle.serving.{specs.declared.request.Request.TheVariants.Learned, proofs.Said.said_part}
use Rattle.serving.proofs.Delivered.{learned_pushed, learned_so}
use Rattle.serving.proofs.{Said.said, Said.said_not, Parts.on_err, Parts.given_err, Reached.on_ok}
use Rattle.serving.proofs.session.Session.learn.Goals as goal

pub returns-in_err-learn_and_push-clause-err : goal.returns-in_err-learn_and_push-clause-err
returns-in_err-learn_and_push-clause-err g c =
    given_err c.from_residual.result
    (said_not c.args.self.home (learned_pushed c.args.self.home c.args.run) (Learned c.args.run) _ _ _ _
    (learned_so c.args.self.home c.args.run _) c.in_err-learn_and_push.ensures.err)

pub returns-clause-ok : goal.returns-clause-ok
returns-clause-ok g c =
    on_ok c.start_if_grown.result (λ d again.
    said c.args.self.home (learned_pushed c.args.self.home c.args.run)
    (Learned c.args.run) _ _ _ _ _ _ _ (learned_so c.args.self.home c.args.run _)
    (c.len-before.ensures.len ∙ ap length c.log.ensures.entries)
    c.in_ok-learn_and_push.ensures.ok d) c.start_if_grown.ensures.ok c.start_if_grown.ensures.ok

pub returns-clause-err : goal.returns-clause-err
returns-clause-err g c =
    on_err c.start_if_grown.result (λ d.
    said_part c.args.self.home (learned_pushed c.args.self.home c.args.run)
    (Learned c.args.run) _ _ _ _ _ _ _ (learned_so c.args.self.home c.args.run _)
    (c.len-before.ensures.len ∙ ap length c.log.ensures.entries)
    c.in_ok-learn_and_push.ensures.ok d) c.start_if_grown.ensures.err
