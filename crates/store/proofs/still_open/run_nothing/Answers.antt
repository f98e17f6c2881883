use Rattle.std.proofs.Common.{inl, inr, []}
use Rattle.sqlite.specs.Held.{state}
use Rattle.store.proofs.Probing.{unchanged, never}
use Rattle.store.proofs.Saving.{kept_unchanged, refused, refused_open}
use Rattle.store.proofs.still_open.run_nothing.Goals as goal

pub returns-in-Ok-clause-same : goal.returns-in-Ok-clause-same
returns-in-Ok-clause-same g c clean =
    unchanged (state g.S.Store c.args.conn.now) (state g.S.Store c.execute.new.self) c.in-Ok.field-0
    (c.in-Ok.ensures.runs clean)

pub returns-in-Ok-clause-spares : goal.returns-in-Ok-clause-spares
returns-in-Ok-clause-spares g c clean =
    let old = state g.S.Store c.args.conn.now in
    let new = state g.S.Store c.execute.new.self in
    let same = unchanged old new c.in-Ok.field-0 (c.in-Ok.ensures.runs clean) in
    record {
      was_open = λ live. same.0.was_open;
      kept = λ live away s log k. kept_unchanged away s log old new k same;
      crash =
          λ db left.
          elim (c.execute.ensures.survives.crash clean db left)
          [ inl before ↦ before | inr after ↦ absurd (never old db after) ];
    }

pub returns-in-Err-clause-spares : goal.returns-in-Err-clause-spares
returns-in-Err-clause-spares g c clean =
    let old = state g.S.Store c.args.conn.now in
    let new = state g.S.Store c.execute.new.self in
    let ran = c.in-Err.ensures.runs clean in
    record {
      was_open = λ live. refused_open [] [] old new c.in-Err.error ran live;
      kept = λ live away s log k. refused [] [] old new c.in-Err.error away s log ran k live;
      crash =
          λ db left.
          elim (c.execute.ensures.survives.crash clean db left)
          [ inl before ↦ before | inr after ↦ absurd (never old db after) ];
    }
