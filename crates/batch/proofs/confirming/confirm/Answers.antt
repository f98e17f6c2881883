use Rattle.std.proofs.Common.{◌∷◌, [], Ok, Err, inl, inr, refl, rules, subst}
use Rattle.client.specs.declared.fault.ClientFault.TheVariants.{NoAnswer}
use Rattle.wire.specs.declared.frame.Frame.{Frame}
use Rattle.batch.{specs.Asking.IsAnswer, specs.Watching.Another, proofs.Confirmed.unconfirmed}
use Rattle.batch.specs.declared.fault.BatchFault.TheVariants.{AnotherCommand, Asking}
use Rattle.batch.proofs.{Confirmed.confirms, Going.grows_none, Trying.fails_by}
use Rattle.batch.proofs.confirming.confirm.Goals as goal

pub returns-in_err-answer-clause-err : goal.returns-in_err-answer-clause-err
returns-in_err-answer-clause-err g c =
    let f = c.in_err-answer.field-0.0 in
    fails_by _ c.from_residual.result f (search rules)
    (unconfirmed f c.args.receiver c.args.id c.args.text.now c.args.told.now (Err f)
    c.position_of-position.result c.log_request-request.result _ _ _ [] (grows_none _)
    c.log_request-request.ensures.request c.position_of-position.ensures.at
    c.in_err-answer.ensures.told (refl, refl))

pub returns-in_default-clause-err : goal.returns-in_default-clause-err
returns-in_default-clause-err g c =
    unconfirmed (Asking NoAnswer) c.args.receiver c.args.id c.args.text.now c.args.told.now
    (Ok c.in_ok-answer.answer) c.position_of-position.result c.log_request-request.result _ _ _ []
    (grows_none _) c.log_request-request.ensures.request c.position_of-position.ensures.at
    c.in_ok-answer.ensures.told (inr (refl, c.in_default.ensures.none, refl))

pub returns-then-is_this-clause-ok : goal.returns-then-is_this-clause-ok
returns-then-is_this-clause-ok g c =
    confirms c.args.receiver c.args.id c.args.text.now c.args.told.now c.in_ok-answer.answer
    c.position_of-position.result c.log_request-request.result c.in-Some.entry.now _ _ _
    (grows_none _) c.log_request-request.ensures.request c.position_of-position.ensures.at
    c.in_ok-answer.ensures.told c.in_ok-answer.ensures.answered c.in-Some.ensures.some
    (c.is_this.ensures.yes c.if-is_this.true)

pub returns-clause-err : goal.returns-clause-err
returns-clause-err g c =
    let entry = c.in-Some.entry.now in
    unconfirmed AnotherCommand c.args.receiver c.args.id c.args.text.now c.args.told.now
    (Ok c.in_ok-answer.answer) c.position_of-position.result c.log_request-request.result _ _ _
    (Another entry ∷ []) c.finds_another.ensures
    c.log_request-request.ensures.request c.position_of-position.ensures.at
    c.in_ok-answer.ensures.told (inl (
      refl,
      entry,
      (
        subst (λ (q : Frame). IsAnswer q c.in_ok-answer.answer)
            c.log_request-request.ensures.request c.in_ok-answer.ensures.answered,
        c.in-Some.ensures.some,
      ),
      c.is_this.ensures.no c.if-is_this.false,
      refl,
    ))

pub returns-clause-cause : goal.returns-clause-cause
returns-clause-cause g c =
    inr (
      refl,
      c.position_of-position.result,
      c.position_of-position.ensures.at,
      c.in-Some.entry.now,
      c.in_ok-answer.answer,
      (
        subst (λ (q : Frame). IsAnswer q c.in_ok-answer.answer)
            c.log_request-request.ensures.request c.in_ok-answer.ensures.answered,
        c.in-Some.ensures.some,
      ),
      c.is_this.ensures.no c.if-is_this.false,
    )
