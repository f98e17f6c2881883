use Rattle.std.proofs.Common.{refl}
use Rattle.learner.specs.declared.event.DeskEvent.TheVariants.{Tick}
use Rattle.serving.specs.{Serving.take, declared.request.Request.TheVariants.Ticked}
use Rattle.serving.proofs.{Answered.ticks, Answered.fails, Parts.given_err}
use Rattle.serving.proofs.session.Session.tick.Goals as goal

pub returns-clause-ok : goal.returns-clause-ok
returns-clause-ok g c =
    let took = c.in_ok-answer.ensures.ok in
    ticks c.args.self.home _ _ _ took.0 took.1 _ _ _ took.2 c.answer_first.ensures.what

pub returns-in_err-answer-clause-err : goal.returns-in_err-answer-clause-err
returns-in_err-answer-clause-err g c =
    given_err c.from_residual.result
    (fails c.args.self.home (take c.args.self.home Tick) Ticked _ _ _ _ (λ fates. refl)
    c.in_err-answer.ensures.err)
