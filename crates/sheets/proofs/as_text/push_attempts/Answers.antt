use Rattle.std.proofs.Common.{◌++◌, codes, sym, ap, ◌∙◌, append_assoc}
use Rattle.sheets.specs.Sheet.{right, columns, attempt_text, attempts}
use Rattle.sheets.proofs.Ranges.{range_more}
use Rattle.sheets.proofs.as_text.push_attempts.Goals as goal

pub loop-place-preserved : goal.loop-place-preserved
loop-place-preserved c =
    c.in_ok-push_attempt.ensures
    ∙ ap (λ x. c.loop-place.out.items ++ (codes " " ++ right (columns c.args.unit) x))
    (c.deref.ensures.value ∙ c.in_ok-text.ensures)
    ∙ ap (λ x. x
    ++ (codes " " ++ right (columns c.args.unit)
    (attempt_text c.args.unit c.args.values.now c.loop-place.place))) c.loop-place.invariant
    ∙ append_assoc c.args.out.now.items
    (attempts c.args.unit c.loop-place.place c.args.values.now) _
    ∙ ap (λ x. c.args.out.now.items ++ x) (sym (range_more (λ k. codes " "
    ++ right (columns c.args.unit) (attempt_text c.args.unit c.args.values.now k))
    c.loop-place.place))
