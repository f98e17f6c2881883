use Rattle.std.proofs.Common.{◌++◌, ◌-◌, ◌%◌, ◌∙◌, List, [], ap, codes, flat_map, length, ℕ}
use Rattle.std.specs.Option.{option_copied}
use Rattle.markup.proofs.board_page.Steps.{three_parts}
use Rattle.table_entry_views.specs.declared.paper.frame.TheConstants.{BOTTOM}
use Rattle.table_entry_views.specs.{paper.Foot.foot, paper.Frame.top, paper.Lists.lists}
use Rattle.table_entry_views.specs.paper.Scorecards.{blanks, card_of}
use Rattle.table_entry_views.proofs.paper.blank_cards.page_with.Goals as goal

pub returns : goal.returns
returns c =
    let hall = c.args.hall.now in
    let id = c.args.id in
    let settings = c.args.settings in
    let file = option_copied c.args.file in
    let slots = c.args.slots.now in
    let below = foot file id settings.advance in
    let is = c.in_ok-foot.ensures in
    let cards = λ (b : List ℕ).
    flat_map (card_of c.args.meet.now.accepted file hall id settings b) slots in
    let left = λ (b : List ℕ). blanks hall id settings b (4 - length slots % 4) in
    let head = top (codes "scorecards") hall in
    three_parts [] (head ++ cards below ++ left below) (lists file id settings.advance) BOTTOM.now
    _ _ _
    (three_parts [] head (cards below) (left below) _ _ _
    (c.in_ok-push_top.ensures ∙ ap (λ (p : List ℕ). p ++ head) c.new-page.ensures.items)
    (c.in_ok-push_cards.ensures ∙ ap (λ (b : List ℕ). c.push_top.new.out.items ++ cards b)
    (c.deref.ensures.value ∙ is))
    (c.in_ok-push_blanks.ensures ∙ ap (λ (b : List ℕ). c.push_cards.new.out.items ++ left b)
    (c.deref-2.ensures.value ∙ is)))
    c.in_ok-push_lists.ensures c.in_ok-push_bottom.ensures
