use Rattle.std.proofs.Common.{◌≡◌, inl, inr, sym, subst, arith, rules, OnOk, true, []}
use Rattle.std.proofs.lemmas.Result.{IfOk-weaker}
use Rattle.sqlite.specs.{State.HasCleanDisk, Held.state}
use Rattle.acceptor.specs.Storing.{first_stored}
use Rattle.store.specs.{Holding.Holds, Kept.Keeps}
use Rattle.store.proofs.Making.{makes_rows, makes_store}
use Rattle.store.proofs.schema.make_tables.Goals as goal

pub returns-clause-made : goal.returns-clause-made
returns-clause-made g c clean bare =
    let old = c.args.conn.now in
    let one = c.execute.new.self.conn.now in
    let two = c.execute-2.new.self.conn.now in
    let three = c.execute-3.new.self.conn.now in
    let end = c.commit.new.self.0 in
    let same : end ≡ c.conn-2-1.given.0 = search rules in
    let late : HasCleanDisk (state g.S.Store end) = search rules in
    let clean3 : HasCleanDisk (state g.S.Store three) =
    omega (arith, c.commit.ensures.survives.clean) in
    let clean2 : HasCleanDisk (state g.S.Store two) =
    omega (arith, c.execute-3.ensures.survives.clean) in
    let clean1 : HasCleanDisk (state g.S.Store one) =
    omega (arith, c.execute-2.ensures.survives.clean) in
    let begun = c.transaction-tx.ensures.begun in
    let desk = c.in_ok-execute.ensures.runs clean1 (rw begun) in
    let entries = c.in_ok-execute-2.ensures.runs clean2 desk.1.mode in
    let row = c.in_ok-execute-3.ensures.runs clean3 entries.1.mode in
    subst (λ h. OnOk c.commit.result (Keeps c.args.home first_stored [] (state g.S.Store h))) same
    (IfOk-weaker c.commit.result _ _ (λ _ h.
    makes_store (state g.S.Store (record old { in_transaction = true })) (state g.S.Store one)
    (state g.S.Store two) (state g.S.Store three) (state g.S.Store end) c.args.home
    c.in_ok-execute.field-0 c.in_ok-execute-2.field-0 c.in_ok-execute-3.field-0 bare
    (rw begun at desk.0) entries.0
    (rw (c.number.ensures, c.small.ensures, c.small-2.ensures) at row.0) h.1)
    (c.commit.ensures.ok late))

pub returns-clause-crash : goal.returns-clause-crash
returns-clause-crash g c clean bare db left =
    let old = c.args.conn.now in
    let one = c.execute.new.self.conn.now in
    let two = c.execute-2.new.self.conn.now in
    let three = c.execute-3.new.self.conn.now in
    let end = c.commit.new.self.0 in
    let same : end ≡ c.conn-2-1.given.0 = search rules in
    let late : HasCleanDisk (state g.S.Store end) = search rules in
    let clean3 : HasCleanDisk (state g.S.Store three) =
    omega (arith, c.commit.ensures.survives.clean) in
    let clean2 : HasCleanDisk (state g.S.Store two) =
    omega (arith, c.execute-3.ensures.survives.clean) in
    let clean1 : HasCleanDisk (state g.S.Store one) =
    omega (arith, c.execute-2.ensures.survives.clean) in
    let begun = c.transaction-tx.ensures.begun in
    let desk = c.in_ok-execute.ensures.runs clean1 (rw begun) in
    let entries = c.in_ok-execute-2.ensures.runs clean2 desk.1.mode in
    let row = c.in_ok-execute-3.ensures.runs clean3 entries.1.mode in
    let started = state g.S.Store (record old { in_transaction = true }) in
    let made =
    makes_rows started (state g.S.Store one) (state g.S.Store two) (state g.S.Store three)
    c.args.home c.in_ok-execute.field-0 c.in_ok-execute-2.field-0 c.in_ok-execute-3.field-0 bare
    (rw begun at desk.0) entries.0
    (rw (c.number.ensures, c.small.ensures, c.small-2.ensures) at row.0) in
    let at_end = subst (λ h. (state g.S.Store h).may_leave db) (sym same) left in
    elim (c.commit.ensures.survives.crash late db at_end) [
      | inr is ↦ inr (subst (λ d. Holds c.args.home d first_stored []) (sym is) made.1)
      | inl before3 ↦ elim (c.execute-3.ensures.survives.crash clean3 db before3) [
        | inr never ↦ absurd never
        | inl before2 ↦ elim (c.execute-2.ensures.survives.crash clean2 db before2) [
          | inr never ↦ absurd never
          | inl before1 ↦ elim (c.execute.ensures.survives.crash clean1 db before1) [
            | inr never ↦ absurd never
            | inl first ↦ inl (rw begun at first)
          ]
        ]
      ]
    ]
