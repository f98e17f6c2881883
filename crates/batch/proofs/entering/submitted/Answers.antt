use Rattle.std.proofs.Common.{◌∙◌, ap, [], inl, refl, rules}
use Rattle.acceptor.specs.declared.entry.Entry.{Entry}
use Rattle.batch.{specs.Dialing.place_of, specs.Asking.request_to, proofs.EachLine.if_takes_text}
use Rattle.batch.proofs.{Going.goes_none, Going.grows_none, EachLine.if_asks_text, Trying.fails_by}
use Rattle.wire.specs.declared.frame.FrameBody.TheVariants as what
use Rattle.batch.proofs.entering.submitted.Goals as goal

pub returns-in_err-entry-clause-err : goal.returns-in_err-entry-clause-err
returns-in_err-entry-clause-err g c =
    fails_by _ c.from_residual.result c.in_err-entry.field-0.0 (search rules) (
      [],
      goes_none (place_of c.args.contact) _,
      ([], inl (c.in_err-entry.ensures.unasked, refl, refl), grows_none _),
    )

pub returns-clause-err : goal.returns-clause-err
returns-clause-err g c =
    if_asks_text (place_of c.args.contact) c.args.receiver c.args.id c.args.text.now
    c.request_to-submit.result _ _ _ c.asked_until_taken.result (c.request_to-submit.ensures
    ∙ ap (λ (e : Entry). request_to c.args.receiver (what.Submit e)) c.in_ok-entry.ensures.made)
    c.asked_until_taken.ensures.err

pub returns-clause-ok : goal.returns-clause-ok
returns-clause-ok g c =
    if_takes_text (place_of c.args.contact) c.args.receiver c.args.id c.args.text.now
    c.request_to-submit.result _ _ _ c.asked_until_taken.result (c.request_to-submit.ensures
    ∙ ap (λ (e : Entry). request_to c.args.receiver (what.Submit e)) c.in_ok-entry.ensures.made)
    c.asked_until_taken.ensures.ok
