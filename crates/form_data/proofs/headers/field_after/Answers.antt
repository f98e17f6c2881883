use Rattle.std.proofs.Common.{◌≡◌, ◌∙◌, ◌+◌, suc, true, false, drop, ap, ℕ, arith}
use Rattle.form_data.specs.{Cutting.begins_as, Headers.field_after}
use Rattle.form_data.proofs.Words.{field_here, field_later}
use Rattle.form_data.proofs.headers.field_after.Goals as goal

pub returns-then-begins_as : goal.returns-then-begins_as
returns-then-begins_as c =
    let name = c.args.name.now in
    let fields = c.args.fields.now in
    let place = c.loop-place.place in
    let here : begins_as name (drop place fields) ≡ true = cc in
    let found = field_here name fields place (omega arith) here in
    cc found

pub loop-place-preserved : goal.loop-place-preserved
loop-place-preserved c =
    let name = c.args.name.now in
    let fields = c.args.fields.now in
    let place = c.loop-place.place in
    let here : begins_as name (drop place fields) ≡ false = cc in
    let later = field_later name fields place (omega arith) here in
    let next : place + 1 ≡ suc place = omega arith in
    ap (λ (k : ℕ). field_after name (drop k fields)) next ∙ later ∙ c.loop-place.invariant
