use Rattle.std.proofs.Common.{◌++◌, ◌∙◌, ap}
use Rattle.formats.specs.Events.{unit_of}
use Rattle.sheets.{specs.model.Shown.marks_shown, proofs.Rows.line_of_row, proofs.Rows.three_parts}
use Rattle.sheets.proofs.as_text.push_line.Goals as goal

pub returns : goal.returns
returns c =
    let is = c.in-Some.ensures in
    three_parts _ _ _ _ _ _ _ c.in_ok-push_results.ensures c.in_ok-push_attempts.ensures
    c.in_ok-push_person.ensures
    ∙ ap (λ x. c.args.out.now.items ++ x) (line_of_row
    (unit_of c.args.shown.event) c.args.shown.meet.now.accepted c.args.shown.settings
    c.args.shown.table.now (marks_shown c.args.shown) c.args.number is.0 c.in-Some.row _ _ _ _ is.1
    c.unit_of-unit.ensures c.attempts_of.ensures.value
    (c.is_marked-marked.ensures is.0 is.1) c.name_text.ensures)
