use Rattle.std.proofs.Common.{◌+◌, ◌-◌, [], ◌∷◌, ◌++◌, List, ap, arith}
use Rattle.std.{specs.Option.option_map, proofs.lemmas.Result.err_from_is_err_and}
use Rattle.acceptor.specs.declared.entry.Entry.{Entry}
use Rattle.wire.specs.{Fields.Read, Reading.entry_at, model.Parts.part_entry}
use Rattle.wire.proofs.Many.{begun, went_on, all_read, not_passed}
use Rattle.wire.proofs.run.pass_entries.Goals as goal

pub loop-init : goal.loop-init
loop-init c = ([], begun entry_at c.args.count c.args.bytes.now (c.args.count - 0) (omega arith))

pub returns-in_err-after : goal.returns-in_err-after
returns-in_err-after c =
    let inv = c.loop.invariant in
    let p = err_from_is_err_and c.from_residual.result c.from_residual.ensures.1 in
    rw (p.1, p.2) (not_passed c.in_err-after.field-0.0 c.args.count c.args.bytes.now
    (c.args.count - c.loop.counter) (c.args.count - (c.loop.counter + 1)) inv.0 c.loop.rest.now
    (omega (arith, c.loop-test.true)) inv.1 c.in_err-after.ensures.value)

pub loop-preserved : goal.loop-preserved
loop-preserved c =
    let inv = c.loop.invariant in (
      inv.0 ++ part_entry c.in_ok-after.field-0-0 ∷ [],
      went_on entry_at c.args.count c.args.bytes.now (c.args.count - c.loop.counter)
          (c.args.count - (c.loop.counter + 1)) inv.0 c.loop.rest.now c.in_ok-after.after.now
          (part_entry c.in_ok-after.field-0-0) (omega (arith, c.loop-test.true)) inv.1
          c.in_ok-after.ensures.value,
    )

pub returns : goal.returns
returns c =
    let inv = c.loop.invariant in
    ap (λ (o : Read (List Entry)). option_map (λ x. x.1) o)
    (all_read entry_at c.args.count c.args.bytes.now (c.args.count - c.loop.counter) inv.0
    c.loop.rest.now (omega (arith, c.loop-test.false)) inv.1)
