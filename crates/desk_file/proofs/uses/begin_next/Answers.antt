use Rattle.std.proofs.Common.{◌≤◌, ◌+◌, ◌%◌, inl, inr, refl, ap, subst, ◌∙◌, arith}
use Rattle.desk_file.specs.Marks.{uses_of}
use Rattle.desk_file.proofs.Marking.{also, in_field, same_bytes, same_count}
use Rattle.desk_file.proofs.Using.{begun_or_free, between, counted_at, counted_still}
use Rattle.desk_file.proofs.uses.begin_next.Goals as goal

pub returns-clause-next : goal.returns-clause-next
returns-clause-next g c =
    let same = c.uses_of.ensures.same.seen in
    let begun = c.in_ok-begin_use.ensures in
    let before = c.in_ok-uses.ensures in
    record {
      begun = begun.begun;
      log_synced = begun.synced.0;
      db_synced = begun.synced.1;
      others = also (in_field 60 (omega arith) (omega arith) (rw same at c.end_use.ensures.others))
          c.begin_use.ensures.others;
      number = ap (λ n. n % 0x100_0000) begun.number ∙ c.number_after.ensures.next;
      counted = λ clean long.
          ap (λ n. n + 1) (before.ok (c.end_use.ensures.clean (c.begin_use.ensures.clean clean))
          long);
    }

pub returns-in_err-uses-clause-crash : goal.returns-in_err-uses-clause-crash
returns-in_err-uses-clause-crash g c mixes has long log db of_log leaves =
    inl (db, c.uses_of.ensures.same.crash db leaves, refl, of_log)

pub returns-then-uses-ge16777215-clause-crash : goal.returns-then-uses-ge16777215-clause-crash
returns-then-uses-ge16777215-clause-crash g c mixes has long log db of_log leaves =
    inl (db, c.uses_of.ensures.same.crash db leaves, refl, of_log)

pub returns-in_err-end_use-clause-crash : goal.returns-in_err-end_use-clause-crash
returns-in_err-end_use-clause-crash g c mixes has long log db of_log leaves =
    let w = c.end_use.ensures.crash mixes db leaves in
    let left = c.uses_of.ensures.same.crash w.0 w.1 in
    between g.D.Disk c.args.files.now log db w.0 left (long w.0 left) of_log w.2

pub returns-in_err-begin_use-clause-crash : goal.returns-in_err-begin_use-clause-crash
returns-in_err-begin_use-clause-crash g c mixes has long log db of_log leaves =
    let same = c.uses_of.ensures.same.seen in
    let longer = (rw same at c.end_use.ensures.others).no_shorter in
    let free = c.in_ok-end_use.ensures.free in
    inr (begun_or_free log db _ _ (λ d. g.D.Disk.may_leave c.end_use.new.db d)
    (c.in_ok-end_use.ensures.synced db) free
    (c.begin_use.ensures.crash mixes (omega arith) free log db of_log leaves))

pub returns-clause-crash : goal.returns-clause-crash
returns-clause-crash g c mixes has long log db of_log leaves =
    let same = c.uses_of.ensures.same.seen in
    let longer = (rw same at c.end_use.ensures.others).no_shorter in
    let free = c.in_ok-end_use.ensures.free in
    inr (begun_or_free log db _ _ (λ d. g.D.Disk.may_leave c.end_use.new.db d)
    (c.in_ok-end_use.ensures.synced db) free
    (c.begin_use.ensures.crash mixes (omega arith) free log db of_log leaves))

pub returns-in_err-uses-clause-grows : goal.returns-in_err-uses-clause-grows
returns-in_err-uses-clause-grows g c mixes clean long counted ch leaves =
    counted ch (c.uses_of.ensures.same.crash ch leaves)

pub returns-then-uses-ge16777215-clause-grows : goal.returns-then-uses-ge16777215-clause-grows
returns-then-uses-ge16777215-clause-grows g c mixes clean long counted ch leaves =
    counted ch (c.uses_of.ensures.same.crash ch leaves)

pub returns-in_err-end_use-clause-grows : goal.returns-in_err-end_use-clause-grows
returns-in_err-end_use-clause-grows g c mixes clean long counted ch leaves =
    let w = c.end_use.ensures.crash mixes ch leaves in
    let was = counted w.0 (c.uses_of.ensures.same.crash w.0 w.1) in
    counted_still _ w.0 ch was w.2.torn

pub returns-in_err-begin_use-clause-grows : goal.returns-in_err-begin_use-clause-grows
returns-in_err-begin_use-clause-grows g c mixes clean long counted ch leaves =
    let before = c.in_ok-uses.ensures in
    let torn = rw c.uses_of.ensures.same.seen at c.end_use.ensures.others in
    let honest = c.end_use.ensures.clean (c.begin_use.ensures.clean clean) in
    let count = same_count _ _ long torn in
    let is = before.ok honest long in
    let next = c.number_after.ensures.next in
    let k = c.begin_use.ensures.grows mixes (counted_at _ _ _ long torn refl).0
    (same_bytes _ _ long torn (before.bytes honest long)) (omega arith) (λ d left. counted_at _ _ d long torn (c.in_ok-end_use.ensures.synced d left))
    ch leaves in
    (k.0, subst (λ n. n ≤ uses_of ch) count k.1)

pub returns-clause-grows : goal.returns-clause-grows
returns-clause-grows g c mixes clean long counted ch leaves =
    let before = c.in_ok-uses.ensures in
    let torn = rw c.uses_of.ensures.same.seen at c.end_use.ensures.others in
    let honest = c.end_use.ensures.clean (c.begin_use.ensures.clean clean) in
    let count = same_count _ _ long torn in
    let is = before.ok honest long in
    let next = c.number_after.ensures.next in
    let k = c.begin_use.ensures.grows mixes (counted_at _ _ _ long torn refl).0
    (same_bytes _ _ long torn (before.bytes honest long)) (omega arith) (λ d left. counted_at _ _ d long torn (c.in_ok-end_use.ensures.synced d left))
    ch leaves in
    (k.0, subst (λ n. n ≤ uses_of ch) count k.1)
