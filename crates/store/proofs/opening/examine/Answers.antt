use Rattle.std.proofs.Common.{◌∙◌, ap, subst₂, length}
use Rattle.sqlite.specs.Held.{state}
use Rattle.store.{specs.Ranges.IsFit, specs.model.Unique.one_state, proofs.Saving.spares_on}
use Rattle.store.proofs.opening.examine.Goals as goal

pub returns-in-Ok-clause-same : goal.returns-in-Ok-clause-same
returns-in-Ok-clause-same g c clean s log k =
    let home = c.args.home in
    let found = c.in-Ok.ensures.found clean in
    let later = (c.read_all.ensures.spares clean).kept found.is_open home s log k in
    let one = one_state home home _ _ s _ log found.holds later.holds in (
      c.len.ensures.len
          ∙ ap length one.1,
      subst₂ (IsFit home.desks) one.0 one.1 c.in-Ok.ensures.in_range,
      later,
    )

pub returns-clause-spares : goal.returns-clause-spares
returns-clause-spares g c clean =
    spares_on (state g.S.Store c.args.conn.now) (state g.S.Store c.read_all.new.conn)
    (state g.S.Store c.fault_of.new.conn)
    (c.read_all.ensures.spares (c.fault_of.ensures.clean clean)) (c.fault_of.ensures.spares clean)
