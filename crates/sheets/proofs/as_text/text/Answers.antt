use Rattle.std.proofs.Common.{ap}
use Rattle.sheets.{specs.Sheet.text_of_round, proofs.Rows.printed}
use Rattle.sheets.proofs.as_text.text.Goals as goal

pub returns-in-Ok-clause-sheet : goal.returns-in-Ok-clause-sheet
returns-in-Ok-clause-sheet c =
    let is = c.in-Some.ensures in
    printed (λ cs event round. text_of_round cs event round c.args.position) _ _ _ _ _ _
    (c.in-Some.shown.settings, c.in-Some.shown.table.now) c.in-Ok.text.items
    (ap (λ h. h.accepted) is.meet) is.event is.number c.in-Ok.ensures is.round
