use Rattle.std.proofs.Common.{◌≡◌, ◌++◌, map, flat_map, drop, codes}
use Rattle.json.specs.Value.{value_view}
use Rattle.wcif_results.specs.{Faults.held, Faults.items_under, model.Opened.held_view}
use Rattle.wcif_results.proofs.reading.held_rounds.Given as goal

-- the rounds so far and those of what is left
abbrev pub invariant-loop-event : goal.invariant-loop-event
invariant-loop-event l =
    map held_view l.rounds.items ++ map held
    (flat_map (items_under (codes "rounds")) (map value_view (drop l.event-index l.events))) ≡ map
    held (flat_map (items_under (codes "rounds")) (map value_view l.events))
