use Rattle.std.proofs.Common.{sym, ◌∙◌, arith}
use Rattle.outbox.proofs.Needed.{needed_here, passed_over}
use Rattle.outbox.proofs.sending.needed_from.Goals as goal

pub returns-then-not-is_decided_at-clause-place : goal.returns-then-not-is_decided_at-clause-place
returns-then-not-is_decided_at-clause-place c =
    let none =
    needed_here c.args.items.now c.args.decided.now.keys c.loop-place.place
    (omega (arith, c.loop-place-test.true, c.kept-place-end.ensures.kept))
    (sym c.is_decided_at.ensures ∙ c.if-not-is_decided_at.true) in
    omega (arith, none, c.loop-place.invariant)

pub loop-place-preserved : goal.loop-place-preserved
loop-place-preserved c =
    let one =
    passed_over c.args.items.now c.args.decided.now.keys c.loop-place.place
    (omega (arith, c.loop-place-test.true, c.kept-place-end.ensures.kept))
    (sym c.is_decided_at.ensures ∙ c.if-not-is_decided_at.false) in
    omega (arith, one, c.loop-place.invariant)
