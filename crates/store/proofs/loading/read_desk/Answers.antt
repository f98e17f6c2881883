use Rattle.std.proofs.Common.{refl, sym, ap, subst, length, IsPermutation, map, ◌∙◌}
use Rattle.sqlite.specs.Held.{state}
use Rattle.store.{specs.Holding.shown_desk, proofs.Decoding.desk_found}
use Rattle.store.proofs.Places.{given_desk, given_one}
use Rattle.store.proofs.loading.read_desk.Goals as goal

pub returns-in-Ok-Some-clause-found : goal.returns-in-Ok-Some-clause-found
returns-in-Ok-Some-clause-found g c clean ours =
    let stored = (state g.S.Store c.args.conn.now).now.trees 0 in
    let one = sym c.as_slice.ensures.value ∙ c.in-Some.ensures.some in
    desk_found stored c.in-Some.row.now c.in-Ok-Some.desk.0 c.in-Ok-Some.desk.1
    (subst (IsPermutation (map shown_desk stored)) one (c.in-Ok.ensures.rows clean ours))
    (rw c.in-Ok-Some.field-0-is at c.in-Ok-Some.ensures.some)

pub returns-in-Ok-None-clause-damaged : goal.returns-in-Ok-None-clause-damaged
returns-in-Ok-None-clause-damaged g c _ clean ours home s whole is =
    let stored = (state g.S.Store c.args.conn.now).now.trees 0 in
    let one = sym c.as_slice.ensures.value ∙ c.in-Some.ensures.some in
    c.in-Ok-None.ensures.none c.in-Ok-None.field-0-is home s whole
    (given_desk stored c.in-Some.row.now home s
    (subst (IsPermutation (map shown_desk stored)) one (c.in-Ok.ensures.rows clean ours)) is)

pub returns-clause-damaged : goal.returns-clause-damaged
returns-clause-damaged g c _ clean ours home s whole is =
    let stored = (state g.S.Store c.args.conn.now).now.trees 0 in
    c.in-None.ensures.none refl (ap length c.as_slice.ensures.value
    ∙ given_one stored c.in-Ok.rows.items home s (c.in-Ok.ensures.rows clean ours) is)
