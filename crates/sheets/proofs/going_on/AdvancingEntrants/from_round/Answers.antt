use Rattle.std.proofs.Common.{◌∙◌}
use Rattle.sheets.proofs.Going.{advanced_then}
use Rattle.sheets.proofs.going_on.AdvancingEntrants.from_round.Goals as goal

pub returns-in-Some : goal.returns-in-Some
returns-in-Some c = λ r opened n.
    c.in_ok-set_of.ensures.0 n
    ∙ advanced_then c.args.meet.now.accepted c.args.event c.args.round c.in-Some.numbers.now
    c.in-Some.ensures n
