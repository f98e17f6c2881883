use Rattle.std.proofs.Common.{◌++◌, ◌∙◌, ap}
use Rattle.formats.specs.Events.{unit_of}
use Rattle.markup.proofs.board_page.Steps.{five_parts}
use Rattle.board_rounds.{specs.model.Shown.through_shown, proofs.EntrantLines.line_of_row}
use Rattle.board_rounds.proofs.lines.push_line.Goals as goal

pub returns : goal.returns
returns c =
    let is = c.in-Some.ensures in
    five_parts _ _ _ _ _ _ _ _ _ _ _ c.in_ok-push_line_start.ensures
    c.in_ok-push_person_cells.ensures c.in_ok-push_results.ensures c.in_ok-push_attempts.ensures
    c.in_ok-push_mark.ensures
    ∙ ap (λ x. c.args.out.now.items ++ x)
    (line_of_row (unit_of c.args.shown.id.event) c.args.shown.meet.now.accepted
    c.args.shown.settings c.args.shown.table.now (through_shown c.args.shown) c.args.number is.0
    c.in-Some.row _ _ _ _ _ is.1 c.unit_of-unit.ensures c.attempts_of-count.ensures.value
    (c.includes-through.ensures c.args.shown.table.now is.0 is.1 ∙ c.requires c.args.number)
    c.is_closed-closed.ensures c.name_text.ensures)
