use Rattle.sqlite.specs.Held.{state}
use Rattle.store.proofs.Changes.{try_goes_on}
use Rattle.store.proofs.statements.try_number.Goals as goal

pub returns-clause-makes : goal.returns-clause-makes
returns-clause-makes g c clean home t more first k =
    try_goes_on first (state g.S.Store c.args.tx.now.conn.now)
    (state g.S.Store c.execute.new.self.conn.now) c.execute.result home t more k c.args.tried
    (rw c.number.ensures at (c.execute.ensures.runs clean k.mode))
