use Rattle.std.proofs.Common.{◌≡◌, suc, drop}
use Rattle.commands.specs.{Accepted.has_outcome, Accepted.scramble_of, model.Cards.lacks_in}
use Rattle.table_service.proofs.refusing.lacks_some.Given as goal

abbrev pub invariant-loop-at : goal.invariant-loop-at
invariant-loop-at l =
    has_outcome (lacks_in (scramble_of l.meet.accepted l.id.event l.id.round)) 1 l.now
    ≡ has_outcome (lacks_in (scramble_of l.meet.accepted l.id.event l.id.round)) (suc l.at)
    (drop l.at l.now)
