use Rattle.std.proofs.Common.{◌≡◌, true, nat_eq, drop, arith}
use Rattle.std.specs.List.{starts_with}
use Rattle.form_data.proofs.Cuts.{cut_at_place, cut_nowhere}
use Rattle.form_data.proofs.cutting.cut.Goals as goal

pub returns-then-starts_with : goal.returns-then-starts_with
returns-then-starts_with c =
    let mark = c.args.mark.now in
    let bytes = c.args.bytes.now in
    let place = c.loop-place.place in
    let here : starts_with nat_eq (drop place bytes) mark ≡ true = cc in
    let whole = cut_at_place mark bytes place (omega arith) c.loop-place.invariant here in
    cc whole

pub returns : goal.returns
returns c =
    let before = c.loop-place.invariant in
    let whole = cut_nowhere c.args.mark.now c.args.bytes.now (λ k below. before k (omega arith)) in
    cc whole
