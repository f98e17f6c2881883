use Rattle.std.proofs.{Common.inl, Common.inr, lemmas.Result.IfOk-weaker}
use Rattle.sqlite.specs.Held.{state}
use Rattle.store.proofs.{Queries.log_shown, Queries.log_spares, Queries.log_commits, Refusing.asked}
use Rattle.store.proofs.reading.log_rows.Goals as goal

pub returns-clause-rows : goal.returns-clause-rows
returns-clause-rows g c clean ours =
    IfOk-weaker c.query_all.result _ _ (λ rows h.
    (log_shown (state g.S.Store c.args.conn.now) (state g.S.Store c.query_all.new.self) rows.items
    ours h).0) (c.query_all.ensures.ok clean)

pub returns-clause-same : goal.returns-clause-same
returns-clause-same g c clean ours =
    IfOk-weaker c.query_all.result _ _ (λ rows h.
    (log_shown (state g.S.Store c.args.conn.now) (state g.S.Store c.query_all.new.self) rows.items
    ours h).1) (c.query_all.ensures.ok clean)

pub returns-clause-spares : goal.returns-clause-spares
returns-clause-spares g c clean ours =
    let old = state g.S.Store c.args.conn.now in
    let new = state g.S.Store c.query_all.new.self in
    log_spares old new c.query_all.result ours
    (IfOk-weaker c.query_all.result _ _ (λ rows h. (log_shown old new rows.items ours h).1)
    (c.query_all.ensures.ok clean)) (c.query_all.ensures.err clean) (λ db left.
    elim (c.query_all.ensures.survives.crash clean db left)
    [ inl before ↦ before | inr after ↦ absurd (log_commits old db ours after) ])

pub returns-clause-sorted : goal.returns-clause-sorted
returns-clause-sorted g c clean ours =
    IfOk-weaker c.query_all.result _ _ (λ rows h.
    (log_shown (state g.S.Store c.args.conn.now) (state g.S.Store c.query_all.new.self) rows.items
    ours h).2) (c.query_all.ensures.ok clean)

pub returns-clause-asked : goal.returns-clause-asked
returns-clause-asked g c clean =
    asked _ _ (state g.S.Store c.args.conn.now) (state g.S.Store c.query_all.new.self)
    c.query_all.result (c.query_all.ensures.ok clean) (c.query_all.ensures.err clean)
