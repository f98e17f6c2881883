use Rattle.std.proofs.Common.{◌≡◌, ◌++◌, map, drop}
use Rattle.json.specs.Value.{value_view}
use Rattle.wcif_results.specs.{Faults.held, model.Opened.held_view}
use Rattle.wcif_results.proofs.reading.push_rounds.Given as goal

-- the rounds so far and those of what is left
abbrev pub invariant-loop-item : goal.invariant-loop-item
invariant-loop-item l =
    map held_view l.rounds.items ++ map held (map value_view (drop l.item-index l.items))
    ≡ map held_view l.initial.rounds.items ++ map held (map value_view l.items)
