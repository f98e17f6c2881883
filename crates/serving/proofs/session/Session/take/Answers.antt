use Rattle.std.proofs.Common.{ap, ◌∙◌, length}
use Rattle.serving.proofs.{Parts.given_err, Started.take_not, Started.take_part, Started.takes}
use Rattle.serving.proofs.session.Session.take.Goals as goal

pub returns-in_err-answer-clause-err : goal.returns-in_err-answer-clause-err
returns-in_err-answer-clause-err g c =
    given_err c.from_residual.result
    (take_not c.args.self.home c.args.event _ _ _ _ c.in_err-answer.ensures.err)

pub returns-in_err-start_if_grown-clause-err : goal.returns-in_err-start_if_grown-clause-err
returns-in_err-start_if_grown-clause-err g c =
    let first = c.in_ok-answer.ensures.ok in
    given_err c.from_residual-in_err-start_if_grown.result
    (take_part c.args.self.home c.args.event _ _ _ _ _ first.0 first.1 _ _ _
    (c.len-before.ensures.len ∙ ap length c.log.ensures.entries) first.2
    c.in_err-start_if_grown.ensures.err)

pub returns-clause-ok : goal.returns-clause-ok
returns-clause-ok g c =
    let first = c.in_ok-answer.ensures.ok in
    takes c.args.self.home c.args.event _ _ _ _ _ first.0 first.1 _ _ _
    (c.len-before.ensures.len ∙ ap length c.log.ensures.entries) first.2
    c.in_ok-start_if_grown.ensures.ok
