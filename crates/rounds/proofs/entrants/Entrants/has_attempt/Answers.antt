use Rattle.std.proofs.Common.{◌∙◌}
use Rattle.rounds.proofs.Leaving.{any_done}
use Rattle.rounds.proofs.entrants.Entrants.has_attempt.Goals as goal

pub returns : goal.returns
returns c =
    rw (← c.self.view_is)
    (c.is_attempted.ensures ∙ any_done c.args.attempt c.self.inside.by_number.entries)
