use Rattle.std.proofs.Common.{◌≡◌, map, drop}
use Rattle.wcif_results.specs.{MeetRounds.round_named, model.Opened.round_view}
use Rattle.wcif_results.proofs.meet_rounds.round_named.Given as goal

-- the answer is that of what is left
abbrev pub invariant-loop-round : goal.invariant-loop-round
invariant-loop-round l =
    round_named (map round_view l.rounds) l.id
    ≡ round_named (map round_view (drop l.round-index l.rounds)) l.id
