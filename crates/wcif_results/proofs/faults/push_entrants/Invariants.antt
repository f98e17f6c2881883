use Rattle.std.proofs.Common.{◌≡◌, ◌++◌, map, flat_map, drop}
use Rattle.json.specs.Value.{value_view}
use Rattle.wcif_results.specs.{Faults.entrant_faults, model.Opened.round_view}
use Rattle.wcif_results.proofs.faults.push_entrants.Given as goal

-- the faults so far and those of what is left
abbrev pub invariant-loop-number : goal.invariant-loop-number
invariant-loop-number l =
    l.faults.items ++ flat_map
    (entrant_faults l.meet.accepted (map value_view l.persons) (round_view l.round))
    (drop l.number-index l.number-items) ≡ l.initial.faults.items ++ flat_map
    (entrant_faults l.meet.accepted (map value_view l.persons) (round_view l.round)) l.number-items
