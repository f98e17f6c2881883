use Rattle.std.proofs.Common.{◌++◌, ◌∙◌, List, Option, ℕ, ap, drop, flat_map, get_or}
use Rattle.attempts.specs.declared.Value.{Value}
use Rattle.markup.proofs.board_page.Steps.{three_parts, two_parts}
use Rattle.commands.specs.History.{History}
use Rattle.table_views.specs.Logs.{accepted_in}
use Rattle.table_entry_views.specs.{Bounds.best_in, Fields.standing_of, Leaving.leaving_line}
use Rattle.table_entry_views.specs.{Card.card_fields, Card.form_start, Card.spare, Page.card_form}
use Rattle.table_entry_views.specs.{Origin.origin_line, declared.card.TheConstants.FORM_END}
use Rattle.table_entry_views.proofs.page.push_form.Goals as goal

pub returns : goal.returns
unfolding card_form
returns c =
    let out = c.args.out.now.items in
    let around = c.args.around.now in
    let id = c.args.id in
    let draft = c.args.draft in
    let settings = c.args.round.settings in
    let t = c.args.round.table.now in
    let values = standing_of t draft in
    let token = around.token.now in
    let ids = around.ids.now in
    let start_of = form_start token (get_or ids 0 0) (flat_map spare (drop 1 ids)) id settings in
    let fields_of = card_fields (accepted_in around.mirror.now) id settings.format in
    let origin = origin_line c.args.past.origin in
    let filled = c.args.past.filled.now in
    let leaving = leaving_line id t draft in
    let start = start_of (best_in t) values in
    let left = c.push_leaving.new.out.items in
    two_parts out (start ++ origin ++ leaving ++ fields_of values filled draft) FORM_END.now _ _
    (two_parts out (start ++ origin ++ leaving) (fields_of values filled draft) _ _
    (three_parts out start origin leaving _ _ _ (c.in_ok-push_form_start.ensures
    ∙ ap (λ (best : Option ℕ). out ++ start_of best c.standing_of-values.result.now)
    c.in_ok-best.ensures
    ∙ ap (λ (stand : List Value). out ++ start_of (best_in t) stand) c.standing_of-values.ensures)
    c.in_ok-push_origin.ensures c.in_ok-push_leaving.ensures) (c.in_ok-push_card_fields.ensures
    ∙ ap (λ (h : History). left
    ++ card_fields h.accepted id settings.format c.standing_of-values.result.now
    c.as_slice.result.now draft) c.meet.ensures
    ∙ ap (λ (stand : List Value). left ++ fields_of stand c.as_slice.result.now draft)
    c.standing_of-values.ensures
    ∙ ap (λ (texts : List (List ℕ)). left ++ fields_of values texts draft)
    c.as_slice.ensures.fields)) c.in_ok-push_form_end.ensures
