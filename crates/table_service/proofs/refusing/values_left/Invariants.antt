use Rattle.std.proofs.Common.{◌≡◌, ◌++◌, suc, drop}
use Rattle.commands.specs.Accepted.{card_values, counts_in, scramble_of, values_now}
use Rattle.table_service.proofs.refusing.values_left.Given as goal

abbrev pub invariant-loop-at : goal.invariant-loop-at
invariant-loop-at l =
    l.values.items
    ++ values_now
    (counts_in l.settings (scramble_of l.meet.accepted l.card.id.event l.card.id.round)) (suc l.at)
    (drop l.at l.card.now) (drop l.at l.card.was)
    ≡ card_values (scramble_of l.meet.accepted l.card.id.event l.card.id.round) l.card l.settings
