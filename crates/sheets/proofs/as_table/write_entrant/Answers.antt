use Rattle.std.proofs.Common.{ℕ, List, OnOk, subst, ap, ◌∙◌}
use Rattle.formats.specs.Events.{unit_of}
use Rattle.csv.specs.Writing.{row_text, default_writer}
use Rattle.sheets.specs.model.{Output.Adds, Shown.marks_shown}
use Rattle.sheets.proofs.Rows.{record_of_row}
use Rattle.sheets.proofs.as_table.write_entrant.Goals as goal

pub returns : goal.returns
returns c =
    let is = c.in-Some.ensures in
    subst (λ (text : List ℕ). OnOk c.write_record.result
    (Adds c.args.writer.now c.write_record.new.writer text))
    (ap (row_text default_writer) c.in_ok-fields.ensures
    ∙ record_of_row
    (unit_of c.args.shown.event) c.args.shown.meet.now.accepted c.args.shown.settings
    c.args.shown.table.now (marks_shown c.args.shown) c.args.number is.0 c.in-Some.row
    c.is_marked-marked.result is.1 (c.is_marked-marked.ensures is.0 is.1)) c.write_record.ensures
