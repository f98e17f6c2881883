use Rattle.std.proofs.Common.{◌≡◌, map, drop}
use Rattle.wcif_results.specs.{Faults.round_with_id, model.Opened.held_view}
use Rattle.wcif_results.proofs.reading.round_with_id.Given as goal

-- the answer is that of what is left
abbrev pub invariant-loop-round : goal.invariant-loop-round
invariant-loop-round l =
    round_with_id l.id (map held_view l.rounds)
    ≡ round_with_id l.id (map held_view (drop l.round-index l.rounds))
