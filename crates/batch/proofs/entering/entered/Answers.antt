use Rattle.std.proofs.Common.{[], inl, refl, rules}
use Rattle.batch.{specs.Dialing.place_of, specs.Asking.IsOfAsking, proofs.Going.grows_none}
use Rattle.batch.proofs.{Asked.undecided, EachLine.not_own, Going.goes_none, Trying.fails_by}
use Rattle.batch.proofs.EachLine.{asks_text, confirmed, is_entered, not_awaited, not_confirmed}
use Rattle.batch.proofs.entering.entered.Goals as goal

pub returns-then-id-eq0-clause-err : goal.returns-then-id-eq0-clause-err
returns-then-id-eq0-clause-err g c = (
  [],
  goes_none (place_of c.args.contact) _,
  ([], inl (inl (tt, refl, refl)), grows_none _),
)

pub returns-in_err-taken-clause-err : goal.returns-in_err-taken-clause-err
returns-in_err-taken-clause-err g c =
    let f = c.in_err-taken.field-0.0 in
    fails_by _ c.from_residual.result f (search rules)
    (asks_text f c.args.receiver c.args.id c.args.text.now _ _ _ c.in_err-taken.ensures.err)

pub returns-in_err-told-clause-err : goal.returns-in_err-told-clause-err
returns-in_err-told-clause-err g c =
    let f = c.in_err-told.field-0.0 in
    fails_by _ c.from_residual-in_err-told.result f (search rules)
    (not_awaited f c.args.receiver c.args.id c.args.text.now c.in_ok-taken.taken _ _ _
    _ _ _ c.in_ok-taken.ensures.ok c.in_err-told.ensures.err)

pub returns-in_err-told-clause-cause : goal.returns-in_err-told-clause-cause
returns-in_err-told-clause-cause g c =
    let f = c.in_err-told.field-0.0 in
    fails_by _ c.from_residual-in_err-told.result f (search rules)
    (undecided IsOfAsking f c.args.waits c.args.receiver c.args.id c.args.text.now
    c.in_ok-taken.taken c.if-not-waits.false c.in_ok-taken.ensures.answer
    c.in_err-told.ensures.cause)

pub returns-in_err-confirm-clause-err : goal.returns-in_err-confirm-clause-err
returns-in_err-confirm-clause-err g c =
    let f = c.in_err-confirm.field-0.0 in
    fails_by _ c.from_residual-in_err-confirm.result f (search rules)
    (not_confirmed f c.args.receiver c.args.id c.args.text.now c.in_ok-taken.taken
    c.in_ok-told.told _ _ _ _ _ _ _ _ c.in_ok-taken.ensures.ok c.in_ok-told.ensures.ok
    c.in_err-confirm.ensures.err)

pub returns-in_err-confirm-clause-cause : goal.returns-in_err-confirm-clause-cause
returns-in_err-confirm-clause-cause g c =
    let f = c.in_err-confirm.field-0.0 in
    fails_by _ c.from_residual-in_err-confirm.result f (search rules)
    (not_own f c.args.waits c.args.receiver c.args.id c.args.text.now c.in_ok-taken.taken
    c.in_ok-told.told c.if-not-waits.false c.in_ok-taken.ensures.answer
    c.in_ok-told.ensures.answer.0 c.in_err-confirm.ensures.cause)

pub returns-clause-answer : goal.returns-clause-answer
returns-clause-answer g c =
    is_entered c.args.waits c.args.receiver c.args.id c.args.text.now c.in_ok-taken.taken
    c.in_ok-told.told _ _ _ c.if-not-waits.false c.in_ok-taken.ensures.answer
    c.in_ok-told.ensures.answer c.in_ok-confirm.ensures.ok

pub returns-clause-ok : goal.returns-clause-ok
returns-clause-ok g c =
    confirmed c.args.waits c.args.receiver c.args.id c.args.text.now c.in_ok-taken.taken
    c.in_ok-told.told _ _ _ _ _ _ _ _ c.if-not-waits.false c.in_ok-taken.ensures.ok
    c.in_ok-told.ensures.ok c.in_ok-confirm.ensures.ok
