use Rattle.std.proofs.Common.{arith}
use Rattle.serve.proofs.Texts.{no_twins_next, twins_at}
use Rattle.serve.proofs.twins.twin_before.Goals as goal

pub returns-then-eq-clause-found : goal.returns-then-eq-clause-found
returns-then-eq-clause-found c =
    twins_at c.args.texts.now c.loop-first.first c.args.second _ _ c.eq.result
    c.loop-first-test.true c.requires c.eq.ensures c.if-eq.true

pub loop-first-preserved : goal.loop-first-preserved
loop-first-preserved c =
    no_twins_next c.args.texts.now c.loop-first.first c.args.second _ _ c.eq.result
    c.loop-first-test.true c.requires c.eq.ensures c.if-eq.false c.loop-first.invariant

pub returns-clause-none : goal.returns-clause-none
returns-clause-none c first twins =
    c.loop-first.invariant first (omega (arith, twins.0, c.loop-first-test.false)) twins
