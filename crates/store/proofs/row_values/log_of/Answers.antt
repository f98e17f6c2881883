use Rattle.std.proofs.Common.{◌∙◌, refl, sym, rules, length}
use Rattle.sqlite_trees.proofs.ListLemmas.{all-slice_get}
use Rattle.acceptor.specs.Entries.{IsId, IsText}
use Rattle.store.proofs.Places.{row_at, parts, same_place, few, far, so_far, full}
use Rattle.store.proofs.Decoding.{grows, log_grows}
use Rattle.store.proofs.row_values.log_of.Goals as goal

pub loop-row-preserved : goal.loop-row-preserved
loop-row-preserved c =
    let entry = rw c.in-Some-2.is at c.in_ok-entry.ensures.some in
    let fits = rw c.in-Some-2.is at c.in_ok-entry.ensures.in_range in
    rw (c.append.ensures, c.in-Ok.ensures.ok) (
      grows c.args.rows.now c.loop-row.row-index c.row-item.result c.loop-row.log.entries
          c.in-Some-2.entry c.in-Some.at c.loop-row-test.true c.row-item.is c.loop-row.invariant.0
          c.in-Some.ensures.some (search rules) entry.0 entry.1,
      log_grows c.loop-row.log.entries c.in-Some-2.entry c.loop-row.invariant.1 fits
          (λ last. absurd (let full =
          c.reserve.ensures.full.1 last in cc)),
    )

pub returns-in_default-clause-none : goal.returns-in_default-clause-none
returns-in_default-clause-none c _ log whole e =
    let found = row_at c.args.rows.now log c.loop-row.row-index c.row-item.result
    c.loop-row-test.true c.row-item.is e in
    let columns = parts c.row-item.result c.loop-row.row-index found.0 found.2 in
    c.in_default.ensures.none refl c.loop-row.row-index
    (far _ (few c.args.rows.now log c.loop-row.row-index c.loop-row-test.true e whole.1)) columns.0

pub returns-then-at-len-clause-none : goal.returns-then-at-len-clause-none
returns-then-at-len-clause-none c _ log whole e =
    let found = row_at c.args.rows.now log c.loop-row.row-index c.row-item.result
    c.loop-row-test.true c.row-item.is e in
    let columns = parts c.row-item.result c.loop-row.row-index found.0 found.2 in
    c.if-at-len.true
    (same_place c.row-item.result c.in-Some.at c.loop-row.row-index c.in-Some.ensures.some columns.0
    ∙ so_far c.args.rows.now c.loop-row.log.entries c.loop-row.row-index c.loop-row-test.true
    c.loop-row.invariant.0 ∙ sym c.len.ensures.len)

pub returns-in_default-2-clause-none : goal.returns-in_default-2-clause-none
returns-in_default-2-clause-none c _ log whole e =
    let found = row_at c.args.rows.now log c.loop-row.row-index c.row-item.result
    c.loop-row-test.true c.row-item.is e in
    let columns = parts c.row-item.result c.loop-row.row-index found.0 found.2 in
    let is_whole =
    all-slice_get (λ x. IsId x.id × IsText x.text) log c.loop-row.row-index found.0 found.1
    whole.0 in
    c.in_ok-entry.ensures.none c.in_default-2.is found.0 is_whole.0 is_whole.1
    (columns.1, columns.2)

pub returns-in-Err-LogFull-clause-none : goal.returns-in-Err-LogFull-clause-none
returns-in-Err-LogFull-clause-none c _ log whole e =
    full c.loop-row.row-index (length c.loop-row.log.entries)
    (few c.args.rows.now log c.loop-row.row-index c.loop-row-test.true e whole.1)
    (so_far c.args.rows.now c.loop-row.log.entries c.loop-row.row-index c.loop-row-test.true
    c.loop-row.invariant.0)
    (c.reserve.ensures.full.0 (rw c.in-Err-LogFull.field-0-is at c.in-Err-LogFull.is))

pub returns-clause-whole : goal.returns-clause-whole
returns-clause-whole c = c.loop-row.invariant.1
