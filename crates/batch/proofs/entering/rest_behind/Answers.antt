use Rattle.std.proofs.Common.{◌≡◌, ◌+◌, ◌∷◌, ◌∙◌, [], Ok, Err, refl, arith, rules}
use Rattle.batch.specs.{Asking.asked_so, Asking.tick_of, Asking.ticks_in, Dialing.place_of}
use Rattle.batch.proofs.{Going.goes_none, Trying.fails_by, Trying.told_of}
use Rattle.batch.proofs.entering.rest_behind.Goals as goal

pub returns-then-not-is_tick_due-clause-ok : goal.returns-then-not-is_tick_due-clause-ok
returns-then-not-is_tick_due-clause-ok g c =
    let none : ticks_in c.args.waited c.args.tries + 0 ≡ ticks_in c.args.waited c.args.tries =
    omega arith in (
      [],
      goes_none (place_of c.args.contact) _,
      (tt, none ∙ c.is_tick_due.ensures.no c.if-not-is_tick_due.true),
    )

pub returns-clause-ok : goal.returns-clause-ok
returns-clause-ok g c =
    let tick = tick_of c.args.receiver in
    let one = asked_so tick (Ok c.in_ok-ask.field-0) in (
      one ∷ [],
      told_of _ _ _ tick (Ok c.in_ok-ask.field-0) c.request_to-tick.ensures
          c.in_ok-ask.ensures.told,
      (((refl, refl), tt), c.is_tick_due.ensures.yes c.if-not-is_tick_due.false),
    )

pub returns-in_err-ask-clause-err : goal.returns-in_err-ask-clause-err
returns-in_err-ask-clause-err g c =
    let tick = tick_of c.args.receiver in
    let f = c.in_err-ask.field-0.0 in
    fails_by _ c.from_residual.result f (search rules)
    (told_of _ _ _ tick (Err f) c.request_to-tick.ensures c.in_err-ask.ensures.told)
