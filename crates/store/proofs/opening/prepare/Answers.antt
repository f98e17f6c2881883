use Rattle.std.proofs.Common.{inl}
use Rattle.sqlite.specs.Held.{state}
use Rattle.store.proofs.Saving.{spares_on}
use Rattle.store.proofs.opening.prepare.Goals as goal

pub returns-in-Err-clause-remains : goal.returns-in-Err-clause-remains
returns-in-Err-clause-remains g c clean =
    let all =
    spares_on (state g.S.Store c.args.conn.now) (state g.S.Store c.run_nothing.new.conn)
    (state g.S.Store c.fault_of.new.conn)
    (c.run_nothing.ensures.spares (c.fault_of.ensures.clean clean))
    (c.fault_of.ensures.spares clean) in
    record { crash = λ db left. inl (all.crash db left); kept = all.kept }

pub returns-clause-remains : goal.returns-clause-remains
returns-clause-remains g c clean =
    let all =
    spares_on (state g.S.Store c.args.conn.now) (state g.S.Store c.run_nothing.new.conn)
    (state g.S.Store c.examine.new.conn)
    (c.run_nothing.ensures.spares (c.examine.ensures.clean clean))
    (c.examine.ensures.spares clean) in
    record { crash = λ db left. inl (all.crash db left); kept = all.kept }
