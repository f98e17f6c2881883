use Rattle.rounds.proofs.Finished.{finished_is}
use Rattle.rounds.proofs.entrants.Entrants.are_finished.Goals as goal

pub returns : goal.returns
returns c =
    rw (← c.self.view_is)
    (finished_is c.self.inside.rules c.self.inside.by_number.entries c.self.inside.unfinished
    c.self.invariant.counts_unfinished)
