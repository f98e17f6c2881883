use Rattle.rounds.proofs.EntrantLines.{index_says}
use Rattle.rounds.proofs.entrants.Entrants.index_of.Goals as goal

pub returns : goal.returns
returns c =
    rw (c.get_index_of.ensures.index, ← c.self.view_is)
    (index_says c.self.inside.rules c.args.number c.self.inside.by_number.entries
    c.self.invariant.cutoff c.get_index_of.ensures.unique c.self.invariant.within
    c.self.invariant.ranged)
