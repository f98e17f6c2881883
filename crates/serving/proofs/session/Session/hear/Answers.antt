use Rattle.std.proofs.Common.{refl}
use Rattle.learner.specs.declared.event.DeskEvent.TheVariants.{Deliver}
use Rattle.serving.specs.{Serving.take, declared.request.Request.TheVariants.Heard}
use Rattle.serving.proofs.{Answered.hears, Answered.fails, Parts.given_err}
use Rattle.serving.proofs.session.Session.hear.Goals as goal

pub returns-clause-ok : goal.returns-clause-ok
returns-clause-ok g c =
    let took = c.in_ok-take.ensures.ok in
    hears c.args.self.home c.args.message _ _ _ took.0 took.1 _ _ took.2

pub returns-in_err-take-clause-err : goal.returns-in_err-take-clause-err
returns-in_err-take-clause-err g c =
    given_err c.from_residual.result
    (fails c.args.self.home (take c.args.self.home (Deliver c.args.message))
    (Heard c.args.message) _ _ _ _ (λ fates. refl) c.in_err-take.ensures.err)
