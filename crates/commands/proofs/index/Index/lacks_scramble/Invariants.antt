use Rattle.std.proofs.Common.{◌≡◌, suc, drop}
use Rattle.commands.specs.{Accepted.has_outcome, model.Cards.scrambles_of, model.Cards.lacks_in}
use Rattle.commands.proofs.index.Index.lacks_scramble.Given as goal

abbrev pub invariant-loop-at : goal.invariant-loop-at
invariant-loop-at l =
    has_outcome (lacks_in (scrambles_of l.accepted l.card.id)) 1 l.card.now
    ≡ has_outcome (lacks_in (scrambles_of l.accepted l.card.id)) (suc l.at) (drop l.at l.card.now)
