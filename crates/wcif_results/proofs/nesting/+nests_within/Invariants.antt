use Rattle.std.proofs.Common.{◌≡◌, nat_le, ◌-◌, drop}
use Rattle.json.specs.Tree.{depth, items_depth, members_depth}
use Rattle.json.specs.Value.{value_view, items_view, members_view}
use Rattle.wcif_results.proofs.nesting.+nests_within.Given as goal

abbrev pub invariant-loop-item : goal.invariant-loop-item
invariant-loop-item l =
    nat_le (depth (value_view l.fn.value)) l.fn.levels
    ≡ nat_le (items_depth (items_view (drop l.item-index l.item-items))) (l.levels - 1)

abbrev pub invariant-loop-member : goal.invariant-loop-member
invariant-loop-member l =
    nat_le (depth (value_view l.fn.value)) l.fn.levels
    ≡ nat_le (members_depth (members_view (drop l.member-index l.member-items))) (l.levels - 1)

abbrev pub decreases-nests_within : goal.decreases-nests_within
decreases-nests_within l = l.levels
