use Rattle.std.proofs.Common.{◌≡◌, ◌<◌, ◌∙◌, inr, refl, subst, sym, Err, Ok, arith, rules}
use Rattle.wire.specs.declared.frame.Frame.{Frame}
use Rattle.batch.{specs.Dialing.place_of, proofs.Going.grows_none, proofs.Trying.most_some}
use Rattle.batch.specs.Asking.{IsAnswer, IsWaiting, ask_of, asked_so}
use Rattle.batch.proofs.Trying.{awaits_told, failed_told, lost_told, waits_more, waits_on_told}
use Rattle.batch.proofs.Trying.{fails_by, none_tried, tick_waits_told, told_of, told_once, tries_on}
use Rattle.batch.proofs.entering.decided.Goals as goal

pub loop-tries-init : goal.loop-tries-init
loop-tries-init g c = (
  none_tried (place_of c.args.contact) (IsWaiting (ask_of c.args.receiver c.args.id))
      c.args.receiver c.args.receiver.awaits _,
  grows_none _,
)

pub returns-in_err-told-clause-err : goal.returns-in_err-told-clause-err
returns-in_err-told-clause-err g c =
    let f = c.in_err-told.field-0.0 in
    fails_by _ c.from_residual.result f (search rules)
    (failed_told c.args.receiver c.args.id f c.loop-tries.tries _ _ _ _ c.loop-tries.invariant.0
    (told_of _ _ _ (ask_of c.args.receiver c.args.id) (Err f)
    c.question_of-question.ensures.question c.in_err-told.ensures.told) c.loop-tries.invariant.1)

pub returns-in-Decided-clause-ok : goal.returns-in-Decided-clause-ok
returns-in-Decided-clause-ok g c =
    awaits_told c.args.receiver c.args.id c.loop-tries.tries _ _ _ _ c.in_ok-told.told
    c.loop-tries.invariant.0
    (told_of _ _ _ (ask_of c.args.receiver c.args.id) (Ok c.in_ok-told.told)
    c.question_of-question.ensures.question c.in_ok-told.ensures.told)
    (c.fate_of.ensures.decided c.in-Decided.is) c.loop-tries.invariant.1

pub returns-in-Unknown-clause-err : goal.returns-in-Unknown-clause-err
returns-in-Unknown-clause-err g c =
    lost_told c.args.receiver c.args.id c.loop-tries.tries _ _ _ _ c.in_ok-told.told
    (c.fate_of.ensures.unknown c.in-Unknown.is) c.loop-tries.invariant.0
    (told_of _ _ _ (ask_of c.args.receiver c.args.id) (Ok c.in_ok-told.told)
    c.question_of-question.ensures.question c.in_ok-told.ensures.told) c.loop-tries.invariant.1

pub returns-in_err-rest_behind-clause-err : goal.returns-in_err-rest_behind-clause-err
returns-in_err-rest_behind-clause-err g c =
    let ask = ask_of c.args.receiver c.args.id in
    let f = c.in_err-rest_behind.field-0.0 in
    fails_by _ c.from_residual-in_err-rest_behind.result f (search rules)
    (tick_waits_told c.args.receiver c.args.id c.loop-tries.tries _ _ _ _ _
    (asked_so ask (Ok c.in_ok-told.told)) f c.loop-tries.invariant.0
    (told_of _ _ _ ask (Ok c.in_ok-told.told) c.question_of-question.ensures.question
    c.in_ok-told.ensures.told) (
      refl,
      (
        subst (λ (q : Frame). IsAnswer q c.in_ok-told.told)
            c.question_of-question.ensures.question c.in_ok-told.ensures.answered,
        c.fate_of.ensures.waits c.in-Waits.is,
      ),
    )
    c.in_err-rest_behind.ensures.err
    (waits_more _ _ _ c.loop-tries.tries c.loop-tries.invariant.1
    c.in_err-rest_behind.ensures.heard))

pub loop-tries-preserved : goal.loop-tries-preserved
loop-tries-preserved g c =
    let ask = ask_of c.args.receiver c.args.id in (
      tries_on (IsWaiting ask) c.args.receiver c.args.receiver.awaits c.loop-tries.tries _ _ _ _
          (asked_so ask (Ok c.in_ok-told.told)) c.loop-tries.invariant.0
          (told_of _ _ _ ask (Ok c.in_ok-told.told) c.question_of-question.ensures.question
          c.in_ok-told.ensures.told) (
            refl,
            (
              subst (λ (q : Frame). IsAnswer q c.in_ok-told.told)
                  c.question_of-question.ensures.question c.in_ok-told.ensures.answered,
              c.fate_of.ensures.waits c.in-Waits.is,
            ),
          )
          c.in_ok-rest_behind.ensures.ok,
      waits_more _ _ _ c.loop-tries.tries c.loop-tries.invariant.1
          c.in_ok-rest_behind.ensures.heard,
    )

pub returns-clause-err : goal.returns-clause-err
returns-clause-err g c =
    let end : c.loop-tries.tries ≡ c.most_asked-tries-end.result = omega arith in
    waits_on_told c.args.receiver c.args.id c.loop-tries.tries _ _ _
    (end ∙ c.most_asked-tries-end.ensures) c.loop-tries.invariant.0 c.loop-tries.invariant.1

pub returns-clause-cause : goal.returns-clause-cause
returns-clause-cause g c =
    let end : c.loop-tries.tries ≡ c.most_asked-tries-end.result = omega arith in
    let some : 0 < c.loop-tries.tries =
    subst (λ n. 0 < n) (sym (end ∙ c.most_asked-tries-end.ensures)) (most_some c.args.receiver.awaits) in
    inr (told_once c.args.receiver c.args.id c.loop-tries.tries _ _ _ some c.loop-tries.invariant.0)
