use Rattle.std.proofs.Common.{◌∙◌, ◌∷◌, [], List, ap, ℕ}
use Rattle.card_forms.specs.{Entries.command_entries, Remarks.noted}
use Rattle.table_service.proofs.Looked.{taken_at}
use Rattle.table_service.proofs.commanding.plan_text.Goals as goal

pub returns : goal.returns
returns c =
    taken_at c.args.outbox.now.list c.args.around.now c.in_ok-place.place.items c.args.back.now
    c.in_ok-place.ensures.items c.in_ok-entries.entries.items _ (c.in_ok-entries.ensures
    ∙ ap (command_entries c.args.form.id) (c.in_ok-texts.ensures
    ∙ ap (λ (text : List ℕ). text ∷ []) (c.in_ok-text.ensures
    ∙ ap (λ (remark : List ℕ). noted remark c.args.form.text) c.remark_in.ensures)))
    c.plan_entries.result c.plan_entries.ensures
