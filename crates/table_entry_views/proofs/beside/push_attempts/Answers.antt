use Rattle.std.proofs.Common.{◌++◌, ◌∙◌, ap, append_assoc, sym}
use Rattle.board_rounds.specs.Rows.{cell}
use Rattle.sheets.{specs.Sheet.attempt_text, proofs.Ranges.range_more}
use Rattle.table_entry_views.specs.Beside.{attempt_cells}
use Rattle.table_entry_views.proofs.beside.push_attempts.Goals as goal

pub loop-place-preserved : goal.loop-place-preserved
loop-place-preserved c =
    let place = c.loop-place.place in
    let shown = attempt_text c.args.unit c.args.values.now in
    c.in_ok-push_cell.ensures
    ∙ ap (λ x. c.loop-place.out.items ++ cell x) (c.deref.ensures.value ∙ c.in_ok-text.ensures)
    ∙ ap (λ x. x ++ cell (shown place)) c.loop-place.invariant
    ∙ append_assoc c.args.out.now.items (attempt_cells c.args.unit c.args.values.now place)
    (cell (shown place))
    ∙ ap (λ x. c.args.out.now.items ++ x) (sym (range_more (λ k. cell (shown k)) place))
