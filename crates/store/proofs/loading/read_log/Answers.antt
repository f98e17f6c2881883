use Rattle.std.proofs.Common.{sym, subst, IsPermutation, map, IsSorted}
use Rattle.sqlite.specs.Held.{state}
use Rattle.store.specs.Holding.{shown_entry, by_first}
use Rattle.store.proofs.{Places.given_in_order, Decoding.log_found}
use Rattle.store.proofs.loading.read_log.Goals as goal

pub returns-in-Ok-Some-clause-found : goal.returns-in-Ok-Some-clause-found
returns-in-Ok-Some-clause-found g c clean ours =
    let stored = (state g.S.Store c.args.conn.now).now.trees 1 in
    log_found stored c.as_slice.result.now c.in-Ok-Some.log.entries
    (subst (IsPermutation (map shown_entry stored)) (sym c.as_slice.ensures.value)
    (c.in-Ok.ensures.rows clean ours)) (rw c.in-Ok-Some.field-0-is at c.in-Ok-Some.ensures.some)

pub returns-in-Ok-None-clause-damaged : goal.returns-in-Ok-None-clause-damaged
returns-in-Ok-None-clause-damaged g c _ clean ours log whole held =
    let stored = (state g.S.Store c.args.conn.now).now.trees 1 in
    let rows = c.as_slice.result.now in
    c.in-Ok-None.ensures.none c.in-Ok-None.field-0-is log whole (given_in_order stored rows
    (subst (IsPermutation (map shown_entry stored)) (sym c.as_slice.ensures.value)
    (c.in-Ok.ensures.rows clean ours))
    (subst (IsSorted by_first) (sym c.as_slice.ensures.value) (c.in-Ok.ensures.sorted clean ours))
    log held)
