use Rattle.std.proofs.Common.{subst}
use Rattle.batch.specs.{Asking.IsAnswer, Dialing.place_of}
use Rattle.batch.proofs.Newest.{both_answered, is_said, not_none, second_fails}
use Rattle.batch.proofs.newest_asked.ask_newest_over.Goals as goal

pub returns-in_default-clause-err : goal.returns-in_default-clause-err
returns-in_default-clause-err g c =
    absurd (not_none c.args.receiver c.in_ok-answer.answer
    (subst (λ q. IsAnswer q c.in_ok-answer.answer) c.status_request-asked.ensures.request
    c.in_ok-answer.ensures.answered) c.in_default.ensures)

pub returns-clause-ok : goal.returns-clause-ok
returns-clause-ok g c =
    both_answered (place_of c.args.contact) _ _ _ c.args.receiver c.args.sheet c.in-Some.standing
    c.status_request-asked.result c.sheet_request-request.result c.in_ok-answer.answer
    c.ask-2.result c.status_request-asked.ensures.request
    (is_said c.in_ok-answer.answer c.in-Some.standing c.in-Some.ensures)
    c.sheet_request-request.ensures.request c.in_ok-answer.ensures.told c.ask-2.ensures.told
    c.in_ok-answer.ensures.answered c.ask-2.ensures.answered

pub returns-clause-err : goal.returns-clause-err
returns-clause-err g c =
    second_fails (place_of c.args.contact) _ _ _ c.args.receiver c.args.sheet c.in-Some.standing
    c.status_request-asked.result c.sheet_request-request.result c.in_ok-answer.answer
    c.ask-2.result c.status_request-asked.ensures.request
    (is_said c.in_ok-answer.answer c.in-Some.standing c.in-Some.ensures)
    c.sheet_request-request.ensures.request c.in_ok-answer.ensures.told c.ask-2.ensures.told
    c.in_ok-answer.ensures.answered
