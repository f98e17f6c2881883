use Rattle.std.proofs.Common.{◌≡◌, ◌<◌, ◌∙◌, ◌-◌, false, List, ℕ, length, take, drop, codes}
use Rattle.std.proofs.Common.{bytes_eq, arith, subst, length-drop, rules}
use Rattle.std.proofs.lemmas.List.{take_all}
use Rattle.texts.proofs.Remarks.{no_mark_there}
use Rattle.texts.proofs.fields.cut_remark.Goals as goal

pub loop-place-preserved : goal.loop-place-preserved
loop-place-preserved c =
    let less : c.loop-place.place < length c.args.bytes.now = search rules in
    let is : c.as_slice.result.now ≡ codes " # " = search rules in
    let count = length-drop c.loop-place.place c.args.bytes.now in
    let whole
    : take (length c.args.bytes.now - c.loop-place.place) (drop c.loop-place.place c.args.bytes.now)
    ≡ drop c.loop-place.place c.args.bytes.now =
    take_all _ (drop c.loop-place.place c.args.bytes.now) (omega (arith, count)) in
    let none
    : bytes_eq (take 3 (drop c.loop-place.place c.args.bytes.now)) (codes " # ") ≡ false =
    subst
    (λ (p : List ℕ). bytes_eq (take (length p) (drop c.loop-place.place c.args.bytes.now)) p
    ≡ false)
    is
    (subst
    (λ (s : List ℕ). bytes_eq (take (length c.as_slice.result.now) s) c.as_slice.result.now
    ≡ false)
    whole c.in_default.ensures.cases) in
    c.loop-place.invariant ∙ no_mark_there c.args.bytes.now c.loop-place.place less none
