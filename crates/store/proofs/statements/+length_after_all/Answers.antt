use Rattle.store.proofs.Together.{length_more, one_and_more}
use Rattle.store.proofs.statements.+length_after_all.Goals as goal

pub returns : goal.returns
returns t c =
    length_more c.args.len c.length_after.result c.length_after_all.result c.args.changes.now _
    c.change-item.result
    (one_and_more c.args.changes.now c.change-item.result c.in-len1-up.len_at_least
    c.change-item.is) c.length_after.ensures c.length_after_all.ensures
