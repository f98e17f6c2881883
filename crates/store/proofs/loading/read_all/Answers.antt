use Rattle.std.proofs.Common.{sym, subst}
use Rattle.sqlite.specs.{Held.state, Effect.Database}
use Rattle.store.{specs.Layout.IsOurs, proofs.Saving.spares_itself, proofs.Saving.spares_on}
use Rattle.store.proofs.loading.read_all.Goals as goal

pub returns-in-Err-read_log-clause-spares : goal.returns-in-Err-read_log-clause-spares
returns-in-Err-read_log-clause-spares g c clean =
    let early = c.read_log.ensures.clean clean in
    let ours =
    subst (λ (d : Database). IsOurs d.schema) (sym (c.in-Ok.ensures.same early).0.now_is)
    (c.in-Ok.ensures.found early).ours in
    spares_on (state g.S.Store c.args.conn.now) (state g.S.Store c.read_home.new.conn)
    (state g.S.Store c.read_log.new.conn) (c.read_home.ensures.spares early)
    (c.read_log.ensures.spares clean ours)

pub returns-in-Err-clause-memory : goal.returns-in-Err-clause-memory
returns-in-Err-clause-memory g c short clean =
    let before = c.args.conn.now in (
      before,
      spares_itself (state g.S.Store before),
      c.in-Err.ensures.memory (let e = short in cc) clean,
    )

pub returns-in-Err-read_log-clause-memory : goal.returns-in-Err-read_log-clause-memory
returns-in-Err-read_log-clause-memory g c short clean =
    let early = c.read_log.ensures.clean clean in (
      c.read_home.new.conn,
      c.read_home.ensures.spares early,
      c.read_log.ensures.memory (let e = c.in-Err-read_log.is in cc) clean,
    )
