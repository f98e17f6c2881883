use Rattle.std.proofs.Common.{map}
use Rattle.wcif_results.specs.{Filled.filled_round, model.Opened.round_view}
use Rattle.wcif_results.proofs.Adding.{one_more, each_left, item_numbers}
use Rattle.wcif_results.proofs.filling.write_rounds.Goals as goal

pub write_round-requires : goal.write_round-requires
write_round-requires c =
    (item_numbers _ c.loop-item.item-index _ _ c.loop-item-test.true c.item-item.is
    c.loop-item.invariant.1).0

pub loop-item-preserved : goal.loop-item-preserved
loop-item-preserved c = (
  one_more _ _
      (each_left (filled_round (map round_view c.args.rounds.now)) _ c.loop-item.item-index _ _
      c.loop-item-test.true c.item-item.is) c.loop-item.invariant.0 c.in_ok-write_round.ensures,
  (item_numbers _ c.loop-item.item-index _ _ c.loop-item-test.true c.item-item.is
      c.loop-item.invariant.1).1,
)
