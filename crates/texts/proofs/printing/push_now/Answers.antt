use Rattle.std.proofs.Common.{◌≡◌, [], ◌∷◌, ◌++◌, ◌∙◌, map, drop, sym, ap, append_assoc, rules}
use Rattle.std.proofs.lemmas.List.{append-nil, drop_all}
use Rattle.texts.{specs.Spelling.stays_or_text, proofs.Splits.behind_each, proofs.Splits.joined}
use Rattle.texts.proofs.printing.push_now.Goals as goal

pub returns : goal.returns
returns c =
    let all : c.args.now.now ≡ c.in-Some.first.now ∷ c.in-Some.later.now = search rules in
    let first
    : c.push_stays_or.new.out.items
    ≡ c.args.out.now.items ++ stays_or_text c.in-Some.first.now =
    search rules in
    let ended : drop c.loop-outcome.outcome-index c.in-Some.later.now ≡ [] =
    drop_all c.loop-outcome.outcome-index c.in-Some.later.now c.loop-outcome-test.false in
    let out
    : c.loop-outcome.out.items
    ≡ c.push_stays_or.new.out.items ++ behind_each 47 (map stays_or_text c.in-Some.later.now) =
    sym (append-nil c.loop-outcome.out.items)
    ∙ ap (λ vs. c.loop-outcome.out.items ++ behind_each 47 (map stays_or_text vs)) (sym ended)
    ∙ c.loop-outcome.invariant in
    rw all
    (out
    ∙ ap (λ y. y ++ behind_each 47 (map stays_or_text c.in-Some.later.now)) first
    ∙ append_assoc c.args.out.now.items (stays_or_text c.in-Some.first.now)
    (behind_each 47 (map stays_or_text c.in-Some.later.now))
    ∙ ap (λ y. c.args.out.now.items ++ y)
    (sym (joined 47 (stays_or_text c.in-Some.first.now) (map stays_or_text c.in-Some.later.now))))
