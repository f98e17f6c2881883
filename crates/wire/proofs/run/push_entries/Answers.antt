use Rattle.std.proofs.Common.{◌≡◌, ◌+◌, ◌-◌, [], ◌∷◌, ◌++◌, List, sym, ap, ◌∙◌, append_assoc, arith}
use Rattle.std.proofs.lemmas.{List.append-nil, Result.err_from_is_err_and}
use Rattle.acceptor.specs.declared.entry.Entry.{Entry}
use Rattle.wire.specs.{Reading.entry_at, model.Parts.part_entry}
use Rattle.wire.proofs.Many.{begun, went_on, all_read, not_pushed}
use Rattle.wire.proofs.run.push_entries.Goals as goal

pub loop-init : goal.loop-init
loop-init c = (
  [],
  sym (append-nil c.args.entries.now),
  begun entry_at c.args.count c.args.bytes.now (c.args.count - 0) (omega arith),
)

pub returns-in_err-entry : goal.returns-in_err-entry
returns-in_err-entry c =
    let inv = c.loop.invariant in
    let p = err_from_is_err_and c.from_residual.result c.from_residual.ensures.1 in
    rw (p.1, p.2) (not_pushed c.in_err-entry.field-0.0 c.args.count c.args.bytes.now
    (c.args.count - c.loop.counter) (c.args.count - (c.loop.counter + 1)) inv.0 c.loop.rest.now
    (omega (arith, c.loop-test.true)) inv.2 c.in_err-entry.ensures.value)

pub loop-preserved : goal.loop-preserved
loop-preserved c =
    let inv = c.loop.invariant in
    let entry : Entry = part_entry c.in_ok-entry.entry in
    let pushed : c.push.new.self ≡ c.loop.entries ++ entry ∷ [] =
    c.in_ok-push.ensures.pushed
    ∙ ap (λ (x : Entry). c.loop.entries ++ x ∷ []) c.in_ok-to_entry.ensures.value in (
      inv.0 ++ entry ∷ [],
      pushed ∙ ap (λ (es : List Entry). es ++ entry ∷ []) inv.1
          ∙ append_assoc c.args.entries.now inv.0 (entry ∷ []),
      went_on entry_at c.args.count c.args.bytes.now (c.args.count - c.loop.counter)
          (c.args.count - (c.loop.counter + 1)) inv.0 c.loop.rest.now c.in_ok-entry.after.now
          entry (omega (arith, c.loop-test.true)) inv.2 c.in_ok-entry.ensures.value,
    )

pub returns : goal.returns
returns c =
    let inv = c.loop.invariant in (
      inv.0,
      c.loop.rest.now,
      all_read entry_at c.args.count c.args.bytes.now (c.args.count - c.loop.counter) inv.0
          c.loop.rest.now (omega (arith, c.loop-test.false)) inv.2,
      inv.1,
    )
