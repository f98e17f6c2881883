use Rattle.std.proofs.Common.{rules}
use Rattle.desk_requests.proofs.Polled.{polls_more}
use Rattle.desk_requests.proofs.polling.+ask_all.Goals as goal

pub returns : goal.returns
returns g t c =
    polls_more c.ask_all.result c.args.inquiry c.args.desk _
    c.args.addresses.now c.args.polled.now.items c.push.new.self.items c.ask_all.new.polled.items
    c.in_ok-one.one _ _ _ (search rules) c.in_ok-one.ensures c.in_ok-push.ensures.items
    c.ask_all.ensures
