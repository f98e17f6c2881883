use Rattle.std.proofs.Common.{◌-◌, ◌∙◌, sym, ap, arith, nat_le}
use Rattle.serde_json.specs.Data.{items_depth, members_depth}
use Rattle.serde_json.specs.View.{items_view, members_view}
use Rattle.wcif.proofs.Listed.{array_depth, object_depth, above_max, within_max, at_item}
use Rattle.wcif.proofs.nesting.+nests_within.Goals as goal

pub loop-item-init : goal.loop-item-init
loop-item-init t c =
    array_depth c.args.value.now c.in-Array.items c.args.levels c.in-Array.is (omega arith)
    ∙ ap (λ vs. nat_le (items_depth (items_view vs)) (c.args.levels - 1))
    (sym c.as_slice-item-items.ensures.value)

pub returns-then-not-nests_within : goal.returns-then-not-nests_within
returns-then-not-nests_within t c =
    sym (c.loop-item.invariant
    ∙ at_item c.as_slice-item-items.result.now c.loop-item.item-index (c.args.levels - 1)
    c.item-item.result c.loop-item-test.true c.item-item.is
    ∙ above_max _ _ _ (sym c.nests_within.ensures ∙ c.if-not-nests_within.true))

pub loop-item-preserved : goal.loop-item-preserved
loop-item-preserved t c =
    c.loop-item.invariant
    ∙ at_item c.as_slice-item-items.result.now c.loop-item.item-index (c.args.levels - 1)
    c.item-item.result c.loop-item-test.true c.item-item.is
    ∙ within_max _ _ _ (sym c.nests_within.ensures ∙ c.if-not-nests_within.false)

pub loop-member-init : goal.loop-member-init
loop-member-init t c =
    object_depth c.args.value.now c.in-Object.members c.args.levels c.in-Object.is (omega arith)
    ∙ ap (λ es. nat_le (members_depth (members_view es)) (c.args.levels - 1))
    (sym (c.into_iter-member-iterator.ensures.into_iter_gives ∙ c.iter-member-items.ensures.rest))

pub returns-then-not-nests_within-2 : goal.returns-then-not-nests_within-2
returns-then-not-nests_within-2 t c =
    sym (c.loop-member.invariant
    ∙ ap (λ es. nat_le (members_depth (members_view es)) (c.args.levels - 1))
    c.in-Some.ensures.steps
    ∙ above_max _ _ _ (sym c.nests_within-in-loop-member.ensures ∙ c.if-not-nests_within-2.true))

pub loop-member-preserved : goal.loop-member-preserved
loop-member-preserved t c =
    c.loop-member.invariant
    ∙ ap (λ es. nat_le (members_depth (members_view es)) (c.args.levels - 1))
    c.in-Some.ensures.steps
    ∙ within_max _ _ _ (sym c.nests_within-in-loop-member.ensures ∙ c.if-not-nests_within-2.false)
