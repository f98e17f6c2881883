use Rattle.std.proofs.Common.{refl}
use Rattle.wcif_results.specs.Results.{attempt_json}
use Rattle.wcif_results.proofs.Adding.{one_more, items_left}
use Rattle.wcif_results.proofs.results.write_attempts.Goals as goal

pub loop-value-preserved : goal.loop-value-preserved
loop-value-preserved c =
    one_more _ _ (items_left attempt_json c.args.values.now c.loop-value.value-index _ _
    c.loop-value-test.true refl) c.loop-value.invariant c.in_ok-write_attempt.ensures
