use Rattle.std.proofs.Common.{◌≡◌, [], ◌∷◌, ◌++◌, ◌∙◌, map, drop, sym, ap, append_assoc, rules}
use Rattle.std.proofs.lemmas.List.{append-nil, drop_all}
use Rattle.texts.{specs.Spelling.counted_text, proofs.Splits.behind_each, proofs.Splits.joined}
use Rattle.texts.proofs.printing.push_was.Goals as goal

pub returns : goal.returns
returns c =
    let all : c.args.was.now ≡ c.in-Some.first.now ∷ c.in-Some.later.now = search rules in
    let first
    : c.push_counted.new.out.items
    ≡ c.args.out.now.items ++ counted_text c.in-Some.first.now =
    search rules in
    let ended : drop c.loop-value.value-index c.in-Some.later.now ≡ [] =
    drop_all c.loop-value.value-index c.in-Some.later.now c.loop-value-test.false in
    let out
    : c.loop-value.out.items
    ≡ c.push_counted.new.out.items ++ behind_each 44 (map counted_text c.in-Some.later.now) =
    sym (append-nil c.loop-value.out.items)
    ∙ ap (λ vs. c.loop-value.out.items ++ behind_each 44 (map counted_text vs)) (sym ended)
    ∙ c.loop-value.invariant in
    rw all
    (out
    ∙ ap (λ y. y ++ behind_each 44 (map counted_text c.in-Some.later.now)) first
    ∙ append_assoc c.args.out.now.items (counted_text c.in-Some.first.now)
    (behind_each 44 (map counted_text c.in-Some.later.now))
    ∙ ap (λ y. c.args.out.now.items ++ y)
    (sym (joined 44 (counted_text c.in-Some.first.now) (map counted_text c.in-Some.later.now))))
