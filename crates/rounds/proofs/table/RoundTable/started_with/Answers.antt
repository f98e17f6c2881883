use Rattle.std.proofs.Common.{ap, sym, ◌∙◌, count_by}
use Rattle.rounds.{specs.Tables.has_started, proofs.EntrantLines.changed_nobody}
use Rattle.rounds.proofs.table.RoundTable.started_with.Goals as goal

pub returns-in-None : goal.returns-in-None
returns-in-None c =
    rw (← c.self.view_is) (c.started.ensures
    ∙ ap (count_by has_started) (sym
    (changed_nobody c.args.number (λ old. c.args.values.now) c.self.inside.entrants.entrants
    c.in-None.ensures)))
