use Rattle.std.proofs.Common.{◌++◌, ◌∙◌, ap}
use Rattle.markup.proofs.board_page.Steps.{five_parts}
use Rattle.board_rounds.{specs.Rows.cell, proofs.EntrantLines.entry_of_row}
use Rattle.board_rounds.proofs.persons.push_shown_entry.Goals as goal

pub returns : goal.returns
returns c =
    let is = c.in-Some.ensures in
    five_parts _ _ _ _ _ _ _ _ _ _ _ c.in_ok-push_round_cell.ensures (c.in_ok-push_cell.ensures
    ∙ ap (λ x. c.push_round_cell.new.out.items ++ cell x)
    (c.deref.ensures.value ∙ c.in_ok-place.ensures)) c.in_ok-push_results.ensures
    (c.in_ok-push_cell-2.ensures
    ∙ ap (λ x. c.push_results.new.out.items ++ cell x)
    (c.deref-2.ensures.value ∙ c.in_ok-attempts.ensures)) c.in_ok-push_state.ensures
    ∙ ap (λ x. c.args.out.now.items ++ x)
    (entry_of_row c.args.shown.id c.args.shown.settings c.args.shown.table.now c.args.number is.0
    c.in-Some.row _ _ _ is.1 c.unit_of-unit.ensures c.attempts_of-count.ensures.value
    c.is_closed-closed.ensures)
