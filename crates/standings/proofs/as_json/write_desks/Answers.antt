use Rattle.std.proofs.Common.{refl}
use Rattle.standings.{specs.AsJson.polled_json, proofs.Adding.one_more, proofs.Left.items_left}
use Rattle.standings.proofs.as_json.write_desks.Goals as goal

pub loop-one-preserved : goal.loop-one-preserved
loop-one-preserved c =
    one_more _ _
    (items_left polled_json c.args.polled.now c.loop-one.one-index _ _ c.loop-one-test.true refl)
    c.loop-one.invariant c.in_ok-write_polled.ensures
