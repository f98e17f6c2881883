use Rattle.card_forms.proofs.Asked.{fills_all}
use Rattle.card_forms.proofs.values.values.Goals as goal

pub returns-clause-values : goal.returns-clause-values
returns-clause-values c =
    fills_all _ c.args.pairs.now c.args.kinds.now c.loop-kind.kind-index c.loop-kind.values.items
    c.loop-kind-test.false c.loop-kind.invariant.so_far
