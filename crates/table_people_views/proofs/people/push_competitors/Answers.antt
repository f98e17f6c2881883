use Rattle.std.proofs.Common.{◌≡◌, ◌<◌, ◌+◌, ◌-◌, ◌++◌, ◌∙◌, ℕ, suc, List, append_assoc, arith, sym}
use Rattle.std.{proofs.Common.flat_map, proofs.lemmas.List.append-nil, specs.List.range_with_len}
use Rattle.table_people_views.specs.People.{competitor_in, competitors}
use Rattle.table_people_views.proofs.people.push_competitors.Goals as goal

-- once the text of one more number was written
one_number_more : (text : ℕ → List ℕ) (i last : ℕ) (before after whole : List ℕ) → i < last
    → before ++ flat_map text (range_with_len (i + 1) (last - i)) ≡ whole
    → after ≡ before ++ text (i + 1)
    → after ++ flat_map text (range_with_len (i + 1 + 1) (last - (i + 1))) ≡ whole
one_number_more text i last before after whole low is written =
    let left : last - i ≡ suc (last - (i + 1)) = omega arith in
    let there = rw left at is in
    let rest = flat_map text (range_with_len (i + 1 + 1) (last - (i + 1))) in
    rw written (append_assoc before (text (i + 1)) rest ∙ there)

pub loop-place-preserved : goal.loop-place-preserved
loop-place-preserved c =
    one_number_more (competitor_in c.args.meet.now.accepted) c.loop-place.place c.args.last
    c.loop-place.out.items c.push_competitor_in.new.out.items _ c.loop-place-test.true
    c.loop-place.invariant c.in_ok-push_competitor_in.ensures

pub returns : goal.returns
unfolding competitors
returns c =
    let none : c.args.last - c.loop-place.place ≡ 0 = omega arith in
    sym (append-nil c.loop-place.out.items) ∙ rw none at c.loop-place.invariant
