use Rattle.std.proofs.Common.{arith}
use Rattle.desk_requests.{specs.Polling.PollsAll, proofs.Polled.polls_all, proofs.Polled.polls_few}
use Rattle.desk_requests.proofs.polling.polled_of.Goals as goal

pub returns-clause-all : goal.returns-clause-all
returns-clause-all g c =
    polls_all c.args.inquiry c.new-polled.result.items c.ask_all.new.polled.items
    c.deref.result.now c.in_ok-compared.compared.items _ _ _ c.new-polled.ensures.items
    c.in_ok-ask_all.ensures c.deref.ensures.value c.in_ok-compared.ensures

pub returns-clause-few : goal.returns-clause-few
returns-clause-few g c =
    let all : PollsAll c.args.inquiry c.in_ok-compared.compared.items
    (g.D.Dial.dialed c.args.dial.now) (g.D.Dial.dialed c.compare.new.dial) =
    polls_all c.args.inquiry c.new-polled.result.items c.ask_all.new.polled.items
    c.deref.result.now c.in_ok-compared.compared.items _ _ _ c.new-polled.ensures.items
    c.in_ok-ask_all.ensures c.deref.ensures.value c.in_ok-compared.ensures in
    let same = polls_few c.args.inquiry c.in_ok-compared.compared.items _ _ all in
    omega (arith, same, c.requires)
