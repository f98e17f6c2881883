use Rattle.std.proofs.Common.{◌≡◌, ◌∙◌, ◌+◌, ◌-◌, ◌++◌, ◌∷◌, [], ℕ, List, true, false, suc, sym, ap}
use Rattle.std.proofs.{Common.None, Common.Some, Common.map, Common.arith, lemmas.List.map-append}
use Rattle.form_data.specs.Bodies.{Found, closes, next_part, parts_after, shown}
use Rattle.form_data.proofs.PartLemmas.{onto, onto_none, finds_part, finds_close, finds_none}
use Rattle.form_data.proofs.PartLemmas.{finds_no_close}
use Rattle.form_data.proofs.bodies.parts_after.Goals as goal

pub loop-taken-init : goal.loop-taken-init
loop-taken-init c =
    rw c.new-parts.ensures.items (onto_none (parts_after 64 c.args.mark.now c.args.bytes.now))

pub returns-then-closes : goal.returns-then-closes
returns-then-closes c =
    let found : List Found = map shown c.loop-taken.parts.items in
    let mark = c.args.mark.now in
    let left = c.loop-taken.left.now in
    let closed : closes left ≡ true = cc in
    sym (finds_close found (64 - c.loop-taken.taken) mark left closed) ∙ c.loop-taken.invariant

pub returns-in_default : goal.returns-in_default
returns-in_default c =
    let found : List Found = map shown c.loop-taken.parts.items in
    let mark = c.args.mark.now in
    let left = c.loop-taken.left.now in
    let taken = c.loop-taken.taken in
    let open_yet : closes left ≡ false = cc in
    let next : next_part mark left ≡ None = cc c.in_default.ensures in
    let n : 64 - taken ≡ suc (64 - (taken + 1)) = omega arith in
    sym (finds_none found (64 - (taken + 1)) mark left open_yet next)
    ∙ ap (λ (k : ℕ). onto found (parts_after k mark left)) (sym n)
    ∙ c.loop-taken.invariant

pub loop-taken-preserved : goal.loop-taken-preserved
loop-taken-preserved c =
    let found : List Found = map shown c.loop-taken.parts.items in
    let part : Found = shown c.in-Some.part in
    let mark = c.args.mark.now in
    let left = c.loop-taken.left.now in
    let after = c.in-Some.after.now in
    let taken = c.loop-taken.taken in
    let open_yet : closes left ≡ false = cc in
    let next : next_part mark left ≡ Some (part, after) = sym c.in-Some.ensures in
    let n : 64 - taken ≡ suc (64 - (taken + 1)) = omega arith in
    let items : c.push.new.self.items ≡ c.loop-taken.parts.items ++ c.in-Some.part ∷ [] =
    c.in_ok-push.ensures.items in
    ap (λ (parts : List Found). onto parts (parts_after (64 - (taken + 1)) mark after))
    (ap (map shown) items ∙ map-append shown c.loop-taken.parts.items (c.in-Some.part ∷ []))
    ∙ finds_part found (64 - (taken + 1)) mark left after part open_yet next
    ∙ ap (λ (k : ℕ). onto found (parts_after k mark left)) (sym n)
    ∙ c.loop-taken.invariant

pub returns-then-closes-2 : goal.returns-then-closes-2
returns-then-closes-2 c =
    let found : List Found = map shown c.loop-taken.parts.items in
    let mark = c.args.mark.now in
    let left = c.loop-taken.left.now in
    let closed : closes left ≡ true = cc in
    sym (finds_close found (64 - c.loop-taken.taken) mark left closed) ∙ c.loop-taken.invariant

pub returns : goal.returns
returns c =
    let found : List Found = map shown c.loop-taken.parts.items in
    let mark = c.args.mark.now in
    let left = c.loop-taken.left.now in
    let open_yet : closes left ≡ false = cc in
    let n : 64 - c.loop-taken.taken ≡ 0 = omega arith in
    sym (finds_no_close found mark left open_yet)
    ∙ ap (λ (k : ℕ). onto found (parts_after k mark left)) (sym n)
    ∙ c.loop-taken.invariant
