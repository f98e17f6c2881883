use Rattle.std.proofs.Common.{refl, ap, ◌∙◌}
use Rattle.serving.specs.{Asking.close_by, Differing.withheld, Permissions.permitted}
use Rattle.serving.proofs.OneFrame.{serves, answer_fails, request_fails, some_is}
use Rattle.serving.proofs.Parts.{given_err}
use Rattle.serving.specs.declared.ends.FrameFault.TheVariants as fault
use Rattle.serving.proofs.session.Session.serve_frame.Goals as goal

pub spell_answer-requires : goal.spell_answer-requires
spell_answer-requires g c = record {
  in_range = λ w is.
      some_is c.args.frame.version is (c.in_ok-answer.ensures.in_range c.args.frame.version
      (c.withheld-request.ensures.asked c.args.frame.version
      (c.permitted-allowed.ensures.asked c.args.frame.version c.request_of-asked.ensures.asked)));
}

pub returns-in_err-answer-clause-err : goal.returns-in_err-answer-clause-err
returns-in_err-answer-clause-err g c =
    given_err _ (request_fails c.args.self.home c.args.frame c.args.may c.args.differs
    c.withheld-request.result _ _ _ _ _ _ (c.withheld-request.ensures.withheld
    ∙ ap (λ z. withheld c.args.differs z) (c.permitted-allowed.ensures.permitted
    ∙ ap (λ z. permitted c.args.may z) c.request_of-asked.ensures.request))
    c.in_err-answer.ensures.err refl)

pub returns-in_err-bytes-clause-err : goal.returns-in_err-bytes-clause-err
returns-in_err-bytes-clause-err g c =
    given_err _ (answer_fails c.args.self.home c.args.frame c.args.may c.args.differs
    c.withheld-request.result _ _ c.in_ok-answer.answer
    fault.NoMemory _ _ _ _ (c.withheld-request.ensures.withheld
    ∙ ap (λ z. withheld c.args.differs z) (c.permitted-allowed.ensures.permitted
    ∙ ap (λ z. permitted c.args.may z) c.request_of-asked.ensures.request))
    c.in_ok-answer.ensures.ok c.in_err-bytes.ensures.due refl)

pub returns-clause-ok : goal.returns-clause-ok
returns-clause-ok g c =
    serves c.args.self.home c.args.frame c.args.may c.args.differs c.withheld-request.result _ _
    c.in_ok-answer.answer _ _ _ _ _ (c.withheld-request.ensures.withheld
    ∙ ap (λ z. withheld c.args.differs z) (c.permitted-allowed.ensures.permitted
    ∙ ap (λ z. permitted c.args.may z) c.request_of-asked.ensures.request))
    c.in_ok-answer.ensures.ok c.in_ok-bytes.ensures.bytes (c.close_by-close.ensures
    ∙ ap (λ z. close_by z (g.D.Desk.seen c.serve_request.new.node).is_down) c.ending-ending.ensures)
