use Rattle.rounds.proofs.EntrantLines.{kept_entrant_at}
use Rattle.rounds.proofs.entrants.Entrants.get.Goals as goal

pub returns : goal.returns
returns c =
    rw (← c.self.view_is)
    (kept_entrant_at c.self.inside.rules c.args.number c.self.inside.by_number.entries c.get.result
    c.self.invariant.made c.self.invariant.placed c.get.ensures.value)
