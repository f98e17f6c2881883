use Rattle.std.proofs.Common.{sym, ◌∙◌}
use Rattle.rounds.proofs.EntrantLines.{is_some_lookup}
use Rattle.rounds.proofs.entrants.Entrants.contains.Goals as goal

pub returns : goal.returns
returns c =
    rw (← c.self.view_is)
    (c.contains_key.ensures ∙ sym (is_some_lookup c.args.number c.self.inside.by_number.entries))
