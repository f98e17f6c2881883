use Rattle.sqlite.specs.Held.{state}
use Rattle.store.proofs.Together.{each_more, each_stops, one_and_more}
use Rattle.store.proofs.statements.+make_each.Goals as goal

pub returns-in-Ok-clause-makes : goal.returns-in-Ok-clause-makes
returns-in-Ok-clause-makes g t c =
    each_more c.args.at c.length_after.result c.in-Ok.field-0 c.args.changes.now _
    c.change-item.result (state g.S.Store c.args.tx.now.conn.now)
    (state g.S.Store c.make.new.tx.conn.now) (state g.S.Store c.make_each.new.tx.conn.now)
    c.make_each.result c.in-Ok.ensures.makes c.length_after.ensures
    c.make_each.ensures.survives c.make_each.ensures.makes
    (one_and_more c.args.changes.now c.change-item.result c.in-len1-up.len_at_least
    c.change-item.is)

pub returns-in-Err-clause-makes : goal.returns-in-Err-clause-makes
returns-in-Err-clause-makes g t c =
    each_stops c.args.at c.args.changes.now c.change-item.result
    (state g.S.Store c.args.tx.now.conn.now)
    (state g.S.Store c.make.new.tx.conn.now) c.in-Err.error c.in-Err.ensures.makes
