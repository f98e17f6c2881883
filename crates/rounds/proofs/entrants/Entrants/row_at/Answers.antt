use Rattle.rounds.proofs.EntrantLines.{row_there}
use Rattle.rounds.proofs.entrants.Entrants.row_at.Goals as goal

pub returns : goal.returns
returns c =
    rw (← c.self.view_is) (λ e at.
    row_there c.self.inside.by_number.entries c.args.index c.index.result.now e c.index.ensures at)
