use Rattle.std.proofs.Common.{rules}
use Rattle.desk_requests.proofs.Polled.{compares_all}
use Rattle.desk_requests.proofs.comparing.compare.Goals as goal

pub returns : goal.returns
returns g c =
    compares_all c.args.inquiry c.args.polled.now c.new-compared.result.items
    c.compare_each.new.compared.items c.common_length-end.result _ _ _
    c.common_length-end.ensures.same (search rules) c.new-compared.ensures.items
    c.in_ok-compare_each.ensures
