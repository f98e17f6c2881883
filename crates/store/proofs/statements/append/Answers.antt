use Rattle.sqlite.specs.Held.{state}
use Rattle.store.proofs.Changes.{append_goes_on}
use Rattle.store.proofs.statements.append.Goals as goal

pub returns-clause-makes : goal.returns-clause-makes
returns-clause-makes g c clean home t more first k last =
    append_goes_on first (state g.S.Store c.args.tx.now.conn.now)
    (state g.S.Store c.execute.new.self.conn.now) c.execute.result home t more k c.args.at
    c.args.entry.now last
    (rw (c.number.ensures, c.long.ensures, c.id.ensures.id, c.text.ensures.text) at
    (c.execute.ensures.runs clean k.mode))
