use Rattle.std.proofs.Common.{◌≡◌, ◌+◌, ◌/◌, Bool, arith, refl, subst, sym}
use Rattle.batch.specs.Asking.{ticks_in}
use Rattle.batch.proofs.entering.is_tick_due.Goals as goal

pub returns-then-waited-clause-yes : goal.returns-then-waited-clause-yes
returns-then-waited-clause-yes c = λ yes.
    subst (λ (w : Bool). ticks_in w c.args.tries + 1 ≡ ticks_in w (c.args.tries + 1))
    (sym c.if-waited.true) refl

pub returns-then-tries-clause-no : goal.returns-then-tries-clause-no
returns-then-tries-clause-no c = λ no.
    let none : c.args.tries / 32 ≡ (c.args.tries + 1) / 32 = omega (arith, c.if-tries.true) in
    subst (λ (w : Bool). ticks_in w c.args.tries ≡ ticks_in w (c.args.tries + 1))
    (sym c.if-waited.false) none

pub returns-clause-yes : goal.returns-clause-yes
returns-clause-yes c = λ yes.
    let tick : c.args.tries / 32 + 1 ≡ (c.args.tries + 1) / 32 = omega (arith, c.if-tries.false) in
    subst (λ (w : Bool). ticks_in w c.args.tries + 1 ≡ ticks_in w (c.args.tries + 1))
    (sym c.if-waited.false) tick
