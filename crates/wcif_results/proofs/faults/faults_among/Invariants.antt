use Rattle.std.proofs.Common.{◌≡◌, ◌++◌, map, flat_map, drop}
use Rattle.json.specs.Value.{value_view}
use Rattle.wcif_results.specs.{Faults.round_faults, model.Opened.held_view, model.Opened.round_view}
use Rattle.wcif_results.proofs.faults.faults_among.Given as goal

-- the faults so far and those of what is left
abbrev pub invariant-loop-round : goal.invariant-loop-round
invariant-loop-round l =
    l.faults.items
    ++ flat_map (round_faults l.meet.accepted (map held_view l.held) (map value_view l.persons))
    (map round_view (drop l.round-index l.rounds))
    ≡ flat_map (round_faults l.meet.accepted (map held_view l.held) (map value_view l.persons))
    (map round_view l.rounds)
