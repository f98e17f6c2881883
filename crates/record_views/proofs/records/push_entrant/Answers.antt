use Rattle.std.proofs.Common.{◌++◌, ◌∙◌, ap}
use Rattle.competition_file.specs.Files.{data_of}
use Rattle.record_views.proofs.RowLines.{line_of_row}
use Rattle.record_views.proofs.records.push_entrant.Goals as goal

pub returns : goal.returns
returns c =
    let is = c.in-Some.ensures in
    c.in_ok-push_line.ensures
    ∙ ap (λ x. c.args.out.now.items ++ x)
    (line_of_row (data_of c.args.file.now) c.args.meet.now.accepted c.args.id c.args.table.now
    c.args.number is.0 c.in-Some.row _ _ is.1 c.name_text-name.ensures c.person-person.ensures)
