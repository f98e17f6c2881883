use Rattle.std.proofs.Common.{◌≡◌, refl, ap, Err, arith, false, rules}
use Rattle.batch.{specs.Dialing.place_of, proofs.Going.grows_none}
use Rattle.batch.specs.Asking.{IsFull, asked_so}
use Rattle.batch.proofs.Trying.{fails_by, if_taken_told, if_turned_off_told, none_tried, taken_told}
use Rattle.batch.proofs.Trying.{tick_off_told, tries_on, turned_off_told, waits_more}
use Rattle.batch.proofs.entering.asked_until_taken.Goals as goal

pub loop-tries-init : goal.loop-tries-init
loop-tries-init g c = (
  none_tried (place_of c.args.contact) (IsFull c.args.submit.now) c.args.receiver false _,
  grows_none _,
)

pub returns-in-Ok-clause-ok : goal.returns-in-Ok-clause-ok
returns-in-Ok-clause-ok g c =
    taken_told c.args.receiver c.args.submit.now c.in-Ok.answer c.loop-tries.tries _ _ _ _
    c.loop-tries.invariant.0 c.in-Ok.ensures.told c.loop-tries.invariant.1

pub returns-then-not-is_busy-clause-err : goal.returns-then-not-is_busy-clause-err
returns-then-not-is_busy-clause-err g c =
    turned_off_told c.args.receiver c.args.submit.now c.in-Err.fault c.loop-tries.tries _ _ _ _
    (λ busy. absurd (c.is_busy.ensures.no c.if-not-is_busy.true busy)) c.loop-tries.invariant.0
    c.in-Err.ensures.told c.loop-tries.invariant.1

pub returns-in_err-rest_behind-clause-err : goal.returns-in_err-rest_behind-clause-err
returns-in_err-rest_behind-clause-err g c =
    let f = c.in_err-rest_behind.field-0.0 in
    fails_by _ c.from_residual.result f (search rules)
    (tick_off_told c.args.receiver c.args.submit.now c.loop-tries.tries _ _ _ _ _
    (asked_so c.args.submit.now (Err c.in-Err.fault)) f c.loop-tries.invariant.0
    c.in-Err.ensures.told (refl, ap Err (c.is_busy.ensures.yes c.if-not-is_busy.false))
    c.in_err-rest_behind.ensures.err (waits_more _ _ _ c.loop-tries.tries c.loop-tries.invariant.1
    c.in_err-rest_behind.ensures.heard))

pub loop-tries-preserved : goal.loop-tries-preserved
loop-tries-preserved g c = (
  tries_on (IsFull c.args.submit.now) c.args.receiver false c.loop-tries.tries _ _ _ _
      (asked_so c.args.submit.now (Err c.in-Err.fault)) c.loop-tries.invariant.0
      c.in-Err.ensures.told (refl, ap Err (c.is_busy.ensures.yes c.if-not-is_busy.false))
      c.in_ok-rest_behind.ensures.ok,
  waits_more _ _ _ c.loop-tries.tries c.loop-tries.invariant.1 c.in_ok-rest_behind.ensures.heard,
)

pub returns-clause-ok : goal.returns-clause-ok
returns-clause-ok g c =
    if_taken_told c.args.receiver c.args.submit.now c.loop-tries.tries _ _ _ _ c.ask-2.result
    c.loop-tries.invariant.0 c.ask-2.ensures.told c.loop-tries.invariant.1

pub returns-clause-err : goal.returns-clause-err
returns-clause-err g c =
    let all : c.loop-tries.tries ≡ 10000 = omega arith in
    if_turned_off_told c.args.receiver c.args.submit.now c.loop-tries.tries _ _ _ _ c.ask-2.result
    all c.loop-tries.invariant.0 c.ask-2.ensures.told c.loop-tries.invariant.1
