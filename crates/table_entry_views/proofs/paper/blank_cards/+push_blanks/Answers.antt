use Rattle.std.proofs.Common.{◌-◌, ◌++◌, ◌∙◌, ℕ, List, ap, sym}
use Rattle.markup.proofs.board_page.Steps.{two_parts}
use Rattle.table_entry_views.specs.declared.paper.blank_cards.TheConstants.{NOBODY}
use Rattle.table_entry_views.specs.paper.Scorecards.{blank_card, blanks}
use Rattle.table_entry_views.proofs.Blanks.{one_more}
use Rattle.table_entry_views.proofs.paper.blank_cards.+push_blanks.Goals as goal

pub returns : goal.returns
returns t c =
    let out = c.args.out.now.items in
    let hall = c.args.hall.now in
    let below = c.args.foot.now in
    two_parts out (blanks hall c.args.id c.args.settings below (c.args.count - 1))
    (blank_card hall c.args.id c.args.settings below NOBODY.now) _ _
    c.in_ok-push_blanks.ensures c.in_ok-push_card.ensures
    ∙ ap (λ (text : List ℕ). out ++ text)
    (sym (one_more hall c.args.id c.args.settings below c.args.count c.if-count-eq0.false))
