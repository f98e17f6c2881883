use Rattle.std.proofs.Common.{◌∙◌, ◌-◌, ℕ, ap, arith, map, slice_get}
use Rattle.table_service.{specs.Recents.shown, proofs.Newest.shown_all, proofs.Newest.shown_more}
use Rattle.table_service.proofs.recents.recents_of.Goals as goal

pub loop-later-preserved : goal.loop-later-preserved
loop-later-preserved c =
    let list = c.args.outbox.now.list in
    let count = c.loop-later.invariant.count in record {
      count = count;
      items = shown_more c.args.mirror.now list c.loop-later.left c.loop-later.later
          c.in-Some.id.now c.in-Some.item.now c.state_of-state.result c.is_answered.result
          c.is_shown-shows.result c.left_after-left.result (map shown c.loop-later.recents.items)
          (map shown c.push_if.new.recents.items) _ (omega arith) (c.in-Some.ensures
          ∙ ap (λ (n : ℕ). slice_get list.items (n - 1 - c.loop-later.later)) count)
          c.state_of-state.ensures c.is_answered.ensures c.is_shown-shows.ensures
          c.left_after-left.ensures c.in_ok-push_if.ensures.shown c.loop-later.invariant.items;
      by = c.in_ok-push_if.ensures.by c.loop-later.invariant.by;
    }

pub returns : goal.returns
returns c =
    let count = c.loop-later.invariant.count in record {
      items = shown_all c.args.mirror.now c.args.outbox.now.list c.loop-later.left
          c.loop-later.later _ _ (omega arith) c.loop-later.invariant.items;
      by = c.loop-later.invariant.by;
    }
