use Rattle.std.proofs.Common.{◌∙◌, ◌||◌, List, ap, map, sym, ℕ}
use Rattle.std.specs.List.{list_all}
use Rattle.acceptor.specs.declared.entry.Entry.{Entry}
use Rattle.card_forms.specs.{Entries.command_entries, Remarks.noted}
use Rattle.command_lists.specs.Answered.{first_refusal, is_done}
use Rattle.texts.specs.declared.answer.Answer.{Answer}
use Rattle.answers.specs.Transcripts.{answers_after}
use Rattle.table_service.{specs.Lists.is_known, proofs.Looked.goes, proofs.Looked.not_done}
use Rattle.table_service.proofs.listing.plan_texts.Goals as goal

pub returns-then-not-goes_on : goal.returns-then-not-goes_on
returns-then-not-goes_on c =
    let q = c.args.outbox.now.list in
    let answers =
    c.in_ok-answers.ensures
    ∙ ap (λ (log : List Entry). answers_after log (command_entries c.args.id c.args.texts.now))
    c.log.ensures.entries in
    not_done c.args.around.now q c.args.pairs.now c.args.id c.page_after-back.result.now
    c.page_after-back.ensures c.args.texts.now (sym (c.goes_on.ensures
    ∙ ap (λ (given : List Answer). is_known q c.args.id || list_all is_done given)
    (c.deref.ensures.value ∙ answers))
    ∙ c.if-not-goes_on.true) c.as_bytes.result.now (c.as_bytes.ensures.value ∙ c.in_ok-why.ensures
    ∙ ap (λ texts. first_refusal texts c.deref-then-not-goes_on.result.now) c.as_slice.ensures.texts
    ∙ ap (first_refusal c.args.texts.now) (c.deref-then-not-goes_on.ensures.value ∙ answers))
    c.refuse.result c.refuse.ensures

pub returns : goal.returns
returns c =
    let q = c.args.outbox.now.list in
    let answers =
    c.in_ok-answers.ensures
    ∙ ap (λ (log : List Entry). answers_after log (command_entries c.args.id c.args.texts.now))
    c.log.ensures.entries in
    goes c.args.around.now q c.args.pairs.now c.args.id c.args.texts.now (sym (c.goes_on.ensures
    ∙ ap (λ (given : List Answer). is_known q c.args.id || list_all is_done given)
    (c.deref.ensures.value ∙ answers))
    ∙ c.if-not-goes_on.false)
    c.in_ok-place.place.items (c.in_ok-place.ensures.items ∙ c.page_after-back.ensures)
    c.in_ok-entries.entries.items (c.in_ok-entries.ensures
    ∙ ap (command_entries c.args.id) (c.in_ok-noted.ensures
    ∙ ap (λ (remark : List ℕ). map (noted remark) c.args.texts.now) c.remark_in.ensures))
    c.plan_entries.result c.plan_entries.ensures
