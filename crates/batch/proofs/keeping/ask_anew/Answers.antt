use Rattle.std.proofs.Common.{refl}
use Rattle.batch.specs.Dialing.{place_of}
use Rattle.batch.proofs.Connections.{anew, if_answered, unreached}
use Rattle.batch.proofs.keeping.ask_anew.Goals as goal

pub returns-in-Err-clause-told : goal.returns-in-Err-clause-told
returns-in-Err-clause-told g c =
    unreached (place_of c.args.contact) c.args.request.now c.no_connection.result 0 _ _
    c.in-Err.ensures.failed c.no_connection.ensures refl

pub returns-clause-told : goal.returns-clause-told
returns-clause-told g c =
    let ended = c.exchange_over-ended.result in
    anew (place_of c.args.contact) c.args.request.now ended.0 ended.1 c.answer_of.result
    c.exchange_over-ended.new.made _ _ _ c.in-Ok.ensures.opened c.exchange_over-ended.ensures.used
    c.exchange_over-ended.ensures.made c.answer_of.ensures.same

pub returns-clause-answered : goal.returns-clause-answered
returns-clause-answered g c =
    let ended = c.exchange_over-ended.result in
    if_answered c.args.request.now ended.0 ended.1 c.answer_of.result c.answer_of.ensures.same
    c.exchange_over-ended.ensures.answered
