use Rattle.std.proofs.Common.{map}
use Rattle.wcif_results.specs.{Filled.filled_event, model.Opened.round_view}
use Rattle.wcif_results.proofs.Adding.{one_more, each_left, item_numbers}
use Rattle.wcif_results.proofs.filling.write_events.Goals as goal

pub write_event-requires : goal.write_event-requires
write_event-requires c =
    (item_numbers _ c.loop-item.item-index _ _ c.loop-item-test.true c.item-item.is
    c.loop-item.invariant.1).0

pub loop-item-preserved : goal.loop-item-preserved
loop-item-preserved c = (
  one_more _ _
      (each_left (filled_event (map round_view c.args.rounds.now)) _ c.loop-item.item-index _ _
      c.loop-item-test.true c.item-item.is) c.loop-item.invariant.0 c.in_ok-write_event.ensures,
  (item_numbers _ c.loop-item.item-index _ _ c.loop-item-test.true c.item-item.is
      c.loop-item.invariant.1).1,
)
