use Rattle.rounds.proofs.table.RoundTable.cutoff.Goals as goal

pub returns-clause-met : goal.returns-clause-met
returns-clause-met c = rw (← c.self.view_is) c.cutoff.ensures.met
