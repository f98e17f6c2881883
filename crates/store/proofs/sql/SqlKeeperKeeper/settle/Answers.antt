use mathlib.Core.Bool.{Bool-set}
use Rattle.std.proofs.Common.{rules, ap, inl}
use Rattle.sqlite.specs.Held.{state}
use Rattle.store.proofs.Settled.{either_for, kept_all, length_of, saved_of, whole_so}
use Rattle.store.proofs.sql.SqlKeeperKeeper.settle.Goals as goal

pub returns-then-is_empty-clause-leaves : goal.returns-then-is_empty-clause-leaves
returns-then-is_empty-clause-leaves g c clean s log k =
    let self = c.args.self.now in (
      whole_so self.home self.len self.changes.items (state g.S.Store self.conn) s log
          (g.met.S.Store.settled self.conn.store) (g.met.S.Store.stays self.conn.store) k.2,
      λ t more found. inl found,
    )

pub returns-then-is_empty-clause-idle : goal.returns-then-is_empty-clause-idle
returns-then-is_empty-clause-idle g c good none =
    ap (λ p. record c.args.self.now { housed = p })
    (Bool-set _ _ c.self-1.given.0 c.args.self.now.housed)

pub returns-in-Ok-clause-keeps : goal.returns-in-Ok-clause-keeps
returns-in-Ok-clause-keeps g c clean good s log k =
    let self = c.args.self.now in
    let old = state g.S.Store self.conn in
    let new = state g.S.Store c.make_all.new.conn in
    let saved =
    saved_of self.len self.changes.items c.as_slice.result.now old new _ self.home s log
    c.in-Ok.ensures.saves (search rules) clean k.2 k.1 in (
      k.0,
      k.1,
      kept_all self.home _ _ new s log
          (length_of self.len _ self.changes.items c.as_slice-in-Ok.result.now old self.home s log
          c.length_after_all-self.ensures (search rules) k.2 k.1) (search rules) saved.ok,
    )

pub returns-in-Ok-clause-leaves : goal.returns-in-Ok-clause-leaves
returns-in-Ok-clause-leaves g c clean s log k =
    let self = c.args.self.now in
    let old = state g.S.Store self.conn in
    let new = state g.S.Store c.make_all.new.conn in
    either_for self.home self.len self.changes.items old s log
    (g.met.S.Store.settled self.conn.store) (g.met.S.Store.stays self.conn.store) k.2 new _
    (saved_of self.len self.changes.items c.as_slice.result.now old new _ self.home s log
    c.in-Ok.ensures.saves (search rules) clean k.2 k.1)

pub returns-in-Err-clause-leaves : goal.returns-in-Err-clause-leaves
returns-in-Err-clause-leaves g c clean s log k =
    let self = c.args.self.now in
    let old = state g.S.Store self.conn in
    let new = state g.S.Store c.make_all.new.conn in
    either_for self.home self.len self.changes.items old s log
    (g.met.S.Store.settled self.conn.store) (g.met.S.Store.stays self.conn.store) k.2 new _
    (saved_of self.len self.changes.items c.as_slice.result.now old new _ self.home s log
    c.in-Err.ensures.saves (search rules) clean k.2 k.1)
