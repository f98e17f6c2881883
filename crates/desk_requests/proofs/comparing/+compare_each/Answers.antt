use Rattle.std.proofs.Common.{rules}
use Rattle.desk_requests.proofs.Polled.{compares_more}
use Rattle.desk_requests.proofs.comparing.+compare_each.Goals as goal

pub returns : goal.returns
returns g t c =
    compares_more c.compare_each.result c.args.inquiry c.args.position c.args.end c.args.known
    c.entries_at-told.result c.first_told-first.result c.other_in-other.result _
    c.args.polled.now c.args.compared.now.items c.push.new.self.items
    c.compare_each.new.compared.items _ _ _ (search rules) c.entries_at-told.ensures
    c.other_in-other.ensures c.in_ok-push.ensures.items c.first_told-first.ensures
    c.compare_each.ensures
