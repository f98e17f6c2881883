use Rattle.std.proofs.Common.{rules}
use Rattle.sqlite.specs.Held.{state}
use Rattle.store.specs.model.Unique.{alone, leads_nowhere, one_state}
use Rattle.store.proofs.Saving.{kept_unchanged}
use Rattle.store.proofs.Settled.{kept_all, kept_alone, kept_with}
use Rattle.store.proofs.sql.SqlKeeperKeeper.load.Goals as goal

pub returns-then-is_harmless-clause-memory : goal.returns-then-is_harmless-clause-memory
returns-then-is_harmless-clause-memory g c is clean s log k =
    let self = c.args.self.now in
    let same = c.is_harmless.ensures.same clean c.if-is_harmless.true in
    let early = c.is_harmless.ensures.clean clean in
    let mid = state g.S.Store c.read_all.new.conn in
    let end = state g.S.Store c.is_harmless.new.conn in (
      k.0,
      k.1,
      kept_with self.home self.len self.changes.items (state g.S.Store self.conn) end s log k.2
          (λ t past h. kept_unchanged self.home t past mid end
          ((c.read_all.ensures.spares early).kept same.0.was_open self.home t past h) same),
    )

pub returns-in-Ok-clause-loaded : goal.returns-in-Ok-clause-loaded
returns-in-Ok-clause-loaded g c clean =
    let self = c.args.self.now in
    let home = self.home in
    let end = c.read_all.new.conn in
    let found = c.in-Ok.ensures.found clean in
    let here =
    (alone (state g.S.Store end) home c.in-Ok.stored c.in-Ok.log.entries
    (g.met.S.Store.settled end.store) (g.met.S.Store.stays end.store) found).holds in
    let less = (c.read_all.ensures.spares clean).crash here.0 here.1 in (
      (
        c.in-Ok.stored,
        c.in-Ok.log.entries,
        (here.0, less, here.2),
        leads_nowhere self.changes.items c.in-Ok.stored c.in-Ok.log.entries c.requires.settled,
      ),
      λ s log k.
          let later =
          (c.read_all.ensures.spares clean).kept found.is_open home s log
          (kept_alone home self.len self.changes.items (state g.S.Store self.conn) s log
          c.requires.settled k.2) in
          one_state home home (state g.S.Store end).now.trees c.in-Ok.stored s c.in-Ok.log.entries
          log found.holds later.holds,
    )

pub returns-in-Ok-clause-kept : goal.returns-in-Ok-clause-kept
returns-in-Ok-clause-kept g c clean =
    let self = c.args.self.now in (
      search rules,
      c.in-Ok.ensures.in_range,
      kept_all self.home _ self.changes.items (state g.S.Store c.read_all.new.conn) c.in-Ok.stored
          c.in-Ok.log.entries (search rules) c.requires.settled (c.in-Ok.ensures.found clean),
    )

pub returns-then-is_harmless-clause-more : goal.returns-then-is_harmless-clause-more
returns-then-is_harmless-clause-more g c =
    let short = c.is_harmless.ensures.memory c.if-is_harmless.true in
    let is = c.in-Err-Sql.is in
    let what = c.in-Err-Sql.field-0-is in (
      λ down. search rules,
      λ other. absurd cc,
      λ other. absurd cc,
      λ _ clean. (
        c.read_all.new.conn,
        c.read_all.ensures.memory (let e = is in cc) (c.is_harmless.ensures.clean clean),
        c.is_harmless.ensures.same clean c.if-is_harmless.true,
      ),
    )
