use Rattle.std.proofs.Common.{◌≡◌, ◌++◌, map, drop, flat_map}
use Rattle.serde_json.specs.View.{view}
use Rattle.wcif.specs.Later.{later_at}
use Rattle.wcif.proofs.later.push_event.Given as goal

-- what is said so far and of what is left
abbrev pub invariant-loop-number : goal.invariant-loop-number
invariant-loop-number l =
    l.later.items ++ flat_map (later_at l.how l.named (map view l.rounds))
    (drop l.number-index l.number-items) ≡ l.initial.later.items ++ flat_map
    (later_at l.how l.named (map view l.rounds)) l.number-items
