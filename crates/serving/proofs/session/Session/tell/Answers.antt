use Rattle.std.proofs.Common.{ap, ◌∙◌, length}
use Rattle.serving.specs.declared.request.Request.TheVariants.{Lagging}
use Rattle.serving.proofs.{Told.told_first, Told.told_so, Reached.on_ok}
use Rattle.serving.proofs.{Said.said, Said.said_not, Said.said_part, Parts.on_err, Parts.given_err}
use Rattle.serving.proofs.session.Session.tell.Goals as goal

pub returns-in_err-call_and_answer-clause-err : goal.returns-in_err-call_and_answer-clause-err
returns-in_err-call_and_answer-clause-err g c =
    given_err c.from_residual.result
    (said_not c.args.self.home (told_first c.args.self.home c.args.message)
    (Lagging c.args.message) _ _ _ _
    (told_so c.args.self.home c.args.message _) c.in_err-call_and_answer.ensures.err)

pub returns-clause-ok : goal.returns-clause-ok
returns-clause-ok g c =
    on_ok c.start_if_grown.result (λ d again.
    said c.args.self.home (told_first c.args.self.home c.args.message)
    (Lagging c.args.message) _ _ _ _ _ _ _ (told_so c.args.self.home c.args.message _)
    (c.len-before.ensures.len ∙ ap length c.log.ensures.entries)
    c.in_ok-call_and_answer.ensures.ok d) c.start_if_grown.ensures.ok c.start_if_grown.ensures.ok

pub returns-clause-err : goal.returns-clause-err
returns-clause-err g c =
    on_err c.start_if_grown.result (λ d.
    said_part c.args.self.home (told_first c.args.self.home c.args.message)
    (Lagging c.args.message) _ _ _ _ _ _ _ (told_so c.args.self.home c.args.message _)
    (c.len-before.ensures.len ∙ ap length c.log.ensures.entries)
    c.in_ok-call_and_answer.ensures.ok d) c.start_if_grown.ensures.err
