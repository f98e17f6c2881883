use Rattle.std.proofs.Common.{◌∙◌}
use Rattle.rounds.proofs.TableCalls.{values_there}
use Rattle.rounds.proofs.table.RoundTable.values.Goals as goal

pub returns : goal.returns
returns c =
    let at = c.in_ok-index.ensures in
    rw (← c.self.view_is)
    (values_there c.self.inside.closed c.self.inside.entrants c.args.number c.in_ok-index.index at
    c.values.result.now (c.values.ensures.values ∙ c.row_at.ensures at.entrant at.there))
