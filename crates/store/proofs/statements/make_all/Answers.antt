use Rattle.std.proofs.Common.{◌≡◌, rules, Err, subst}
use Rattle.sqlite.specs.Held.{state}
use Rattle.store.{specs.Inside.SavesAllAt, proofs.Together.all_made, proofs.Together.all_stops}
use Rattle.store.proofs.statements.make_all.Goals as goal

pub returns-then-not-is_autocommit-clause-saves : goal.returns-then-not-is_autocommit-clause-saves
returns-then-not-is_autocommit-clause-saves g c clean home s log k last long =
    absurd (let off = k.autocommit in let on = c.if-not-is_autocommit.ensures.value in cc)

pub returns-in-Ok-clause-saves : goal.returns-in-Ok-clause-saves
returns-in-Ok-clause-saves g c =
    let end = c.commit.new.self.0 in
    let same : end ≡ c.conn-1.given.0 = search rules in
    subst (λ h.
    SavesAllAt {X = Unit {0}} c.args.len c.args.changes.now (state g.S.Store c.args.conn.now)
    (state g.S.Store h) c.commit.result) same
    (all_made (state g.S.Store c.args.conn.now) (state g.S.Store c.make_each.new.tx.conn.now)
    (state g.S.Store end) c.args.len c.args.changes.now _ c.commit.result
    (g.met.S.Store.settled c.args.conn.now.store)
    (rw c.transaction-tx.ensures.begun at c.in-Ok.ensures.makes)
    (rw c.transaction-tx.ensures.begun at c.in-Ok.ensures.survives)
    c.commit.ensures.ok c.commit.ensures.err c.commit.ensures.survives)

pub returns-in-Err-clause-saves : goal.returns-in-Err-clause-saves
returns-in-Err-clause-saves g c =
    let end = c.drop-tx.new.self.0 in
    let same : end ≡ c.conn-in-Err-1.given.0 = search rules in
    subst (λ h.
    SavesAllAt {X = Unit {0}} c.args.len c.args.changes.now (state g.S.Store c.args.conn.now)
    (state g.S.Store h) (Err c.in-Err.error)) same
    (all_stops (state g.S.Store c.args.conn.now) (state g.S.Store c.make_each.new.tx.conn.now)
    (state g.S.Store end) c.args.len c.args.changes.now c.in-Err.error
    (g.met.S.Store.settled c.args.conn.now.store)
    (rw c.transaction-tx.ensures.begun at c.in-Err.ensures.makes)
    (rw c.transaction-tx.ensures.begun at c.in-Err.ensures.survives)
    c.drop-tx.ensures.undone c.drop-tx.ensures.survives)
