use Rattle.std.proofs.Common.{◌≡◌, ◌+◌, ◌^◌, ◌≤◌, ◌∙◌, ap, false, subst, sym, true, rules}
use Rattle.batch.{specs.Dialing.place_of, proofs.Trying.fails_by}
use Rattle.batch.specs.Entering.{IsEntered, ends_after, ends_run}
use Rattle.batch.proofs.Asked.{beyond, enters_line, refused, unentered, unprinted}
use Rattle.batch.proofs.lines_entered.enter_line.Goals as goal

pub returns-in_default-clause-err : goal.returns-in_default-clause-err
returns-in_default-clause-err g c =
    let far : 2 ^ 64 ≤ c.args.batch.first_id + c.args.n = search rules in
    beyond (place_of c.args.contact) c.args.batch c.args.n c.args.line.now.text _ _ _ far

pub returns-in_err-answer-clause-err : goal.returns-in_err-answer-clause-err
returns-in_err-answer-clause-err g c =
    let id : c.in-Some.id ≡ c.args.batch.first_id + c.args.n = search rules in
    let f = c.in_err-answer.field-0.0 in
    fails_by _ c.from_residual.result f (search rules)
    (unentered c.args.batch c.in-Some.id c.args.n _ c.args.line.now.text _ _ _ _ _ _ f id
    c.text.ensures c.in_err-answer.ensures.cause c.begins.ensures c.in_err-answer.ensures.err)

pub returns-in_err-print_answer-clause-err : goal.returns-in_err-print_answer-clause-err
returns-in_err-print_answer-clause-err g c =
    let id : c.in-Some.id ≡ c.args.batch.first_id + c.args.n = search rules in
    let f = c.in_err-print_answer.field-0.0 in
    let b = c.args.batch in
    fails_by _ c.from_residual-in_err-print_answer.result f (search rules)
    (unprinted b c.in-Some.id c.args.n _ c.args.line.now.text c.in_ok-answer.answer _ _ _ _ _ _ _
    f id c.text.ensures c.in_err-print_answer.ensures.fault
    (subst (λ t. IsEntered b.waits b.receiver c.in-Some.id t c.in_ok-answer.answer)
    c.text.ensures c.in_ok-answer.ensures.answer)
    c.begins.ensures c.in_ok-answer.ensures.ok c.in_err-print_answer.ensures.err)

pub returns-then-ends-clause-err : goal.returns-then-ends-clause-err
returns-then-ends-clause-err g c =
    let id : c.in-Some.id ≡ c.args.batch.first_id + c.args.n = search rules in
    let b = c.args.batch in
    let ends : ends_run b c.in_ok-answer.answer ≡ true =
    ap (ends_after b) (sym c.told_answer-said.ensures) ∙ sym c.ends_after-ends.ensures
    ∙ c.if-ends.true in
    refused b c.in-Some.id c.args.n _ c.args.line.now.text c.in_ok-answer.answer _ _ _ _ _ _
    c.told_answer-said.result _ _ id c.text.ensures c.told_answer-said.ensures ends
    (subst (λ t. IsEntered b.waits b.receiver c.in-Some.id t c.in_ok-answer.answer)
    c.text.ensures c.in_ok-answer.ensures.answer)
    c.begins.ensures c.in_ok-answer.ensures.ok c.entered-2.ensures c.in_ok-print_answer.ensures.ok

pub returns-clause-ok : goal.returns-clause-ok
returns-clause-ok g c =
    let id : c.in-Some.id ≡ c.args.batch.first_id + c.args.n = search rules in
    let b = c.args.batch in
    let on : ends_run b c.in_ok-answer.answer ≡ false =
    ap (ends_after b) (sym c.told_answer-said.ensures) ∙ sym c.ends_after-ends.ensures
    ∙ c.if-ends.false in
    enters_line b c.in-Some.id c.args.n _ c.args.line.now.text c.in_ok-answer.answer _ _ _
    _ _ _ c.told_answer-said.result _ _ id c.text.ensures c.told_answer-said.ensures
    (subst (λ t. IsEntered b.waits b.receiver c.in-Some.id t c.in_ok-answer.answer)
    c.text.ensures c.in_ok-answer.ensures.answer)
    c.begins.ensures c.in_ok-answer.ensures.ok c.entered-2.ensures on
    c.in_ok-print_answer.ensures.ok
