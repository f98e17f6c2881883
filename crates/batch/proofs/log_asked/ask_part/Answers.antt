use Rattle.std.proofs.Common.{Ok, inl, refl}
use Rattle.client.specs.declared.fault.ClientFault.TheVariants.{NoAnswer}
use Rattle.batch.specs.declared.fault.BatchFault.TheVariants.{Asking}
use Rattle.batch.proofs.Parts.{adds_part, fails_part}
use Rattle.batch.proofs.log_asked.ask_part.Goals as goal

pub returns-in_default-clause-err : goal.returns-in_default-clause-err
returns-in_default-clause-err g c =
    fails_part _ c.args.receiver _ _ c.len-position.result (Ok c.in_ok-answer.answer)
    (Asking NoAnswer) c.log_request-request.result c.len-position.ensures.len
    c.log_request-request.ensures.request c.in_ok-answer.ensures.told
    (inl (refl, c.in_default.ensures.none))

pub returns-in-Ok-clause-ok : goal.returns-in-Ok-clause-ok
returns-in-Ok-clause-ok g c =
    adds_part _ c.args.receiver _ _ c.in-Some.entries _ c.in-Some.length c.len-position.result
    c.in_ok-answer.answer c.log_request-request.result c.len-position.ensures.len
    c.log_request-request.ensures.request c.in_ok-answer.ensures.told
    c.in_ok-answer.ensures.answered (c.in-Some.ensures.some c.args.receiver) c.in-Ok.ensures
