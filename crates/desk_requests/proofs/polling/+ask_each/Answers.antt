use Rattle.std.proofs.Common.{rules}
use Rattle.batch.specs.Dialing.{place_of}
use Rattle.desk_requests.proofs.Polled.{first_replies}
use Rattle.desk_requests.proofs.polling.+ask_each.Goals as goal

pub returns : goal.returns
returns g t c =
    first_replies (place_of c.args.contact) c.args.question c.args.hall c.args.desks.now _ _
    c.request_of-request.result c.ask_over-answer.result c.reply_to.result
    (search rules) c.request_of-request.ensures.request c.ask_over-answer.ensures.told
    (c.is_foreign.ensures.no c.if-is_foreign.false) c.reply_to.ensures
