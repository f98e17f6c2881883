use Rattle.std.proofs.Common.{◌≡◌, ◌<◌, Err, List, length, arith, rules, drop-cons}
use Rattle.std.specs.Option.{option_copied}
use Rattle.arrayvec.specs.declared.array_vec.ArrayVec.{ArrayVec}
use Rattle.texts.{specs.declared.value.FieldValue.FieldValue, proofs.Memory.stops}
use Rattle.texts.proofs.reading.values_of.Goals as goal

pub returns-in_err-next : goal.returns-in_err-next
returns-in_err-next c =
    let same : c.from_residual.result ≡ Err c.in_err-next.field-0.0 = search rules in
    let there : c.loop-kind.kind-index < length c.args.kinds.now = omega arith in
    let view : ArrayVec FieldValue 6 (Unit {0}) → List FieldValue = λ vs. vs.items in
    rw same
    (stops view c.args.kinds.now c.loop-kind.kind-index c.loop-kind.index c.loop-kind.stands _ _
    c.loop-kind.values.items (option_copied c.args.left) (option_copied c.loop-kind.ahead)
    c.in_err-next.field-0.0 c.requires.last
    (drop-cons c.args.kinds.now c.loop-kind.kind-index _ there)
    c.loop-kind.invariant.index c.loop-kind.invariant.so_far c.in_err-next.ensures)
