use Rattle.std.proofs.Common.{map}
use Rattle.serve.proofs.Texts.{all_apart, apart_next}
use Rattle.serve.proofs.twins.twins_in.Goals as goal

pub loop-second-preserved : goal.loop-second-preserved
loop-second-preserved c =
    apart_next (map (λ t. t.now) c.args.texts.now) c.loop-second.second c.in_default.ensures.none
    c.loop-second.invariant

pub returns-clause-none : goal.returns-clause-none
returns-clause-none c =
    all_apart c.args.texts.now c.loop-second.second c.loop-second-test.false c.loop-second.invariant
