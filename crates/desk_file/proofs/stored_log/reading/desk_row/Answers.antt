use Rattle.std.proofs.Common.{◌≡◌, ◌∙◌, arith, rules, subst, refl, true}
use Rattle.sqlite.specs.{State.HasCleanDisk, Held.state}
use Rattle.desk_file.{proofs.stored_log.Opened.unmoved, specs.stored_log.model.Back.IsBack}
use Rattle.desk_file.proofs.stored_log.reading.desk_row.Goals as goal

pub returns-clause-same : goal.returns-clause-same
returns-clause-same g c clean =
    let old = state g.S.Store c.args.conn.now in
    let begun = state g.S.Store (record c.args.conn.now { in_transaction = true }) in
    let read = c.query_row-row.new.self.conn.now in
    let end = c.rollback.new.self.0 in
    let same : end ≡ c.conn-1.given.0 = search rules in
    let late : HasCleanDisk (state g.S.Store end) = search rules in
    let clean1 : HasCleanDisk (state g.S.Store read) = omega
    (arith, c.rollback.ensures.survives.clean) in
    let row = (rw c.transaction-reading.ensures.begun at (c.query_row-row.ensures.row clean1)) in
    let undone = c.rollback.ensures.undone late in
    subst (λ h. IsBack old (state g.S.Store h)) same (λ live.
    let moved = unmoved _ _ begun (state g.S.Store read) c.query_row-row.result refl row
    (undone.was_open live) in
    ((undone.undone live).0 ∙ moved, (undone.undone live).1 ∙ moved))
