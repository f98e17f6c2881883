use Rattle.std.proofs.Common.{refl}
use Rattle.standings.{specs.AsJson.natural, proofs.Adding.one_more, proofs.Left.items_left}
use Rattle.standings.proofs.as_json.write_told.Goals as goal

pub loop-length-preserved : goal.loop-length-preserved
loop-length-preserved c =
    one_more _ _ (items_left natural _ c.loop-length.length-index _ _ c.loop-length-test.true refl)
    c.loop-length.invariant c.in_ok-write_natural.ensures
