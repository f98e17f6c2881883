use Rattle.std.proofs.Common.{◌≡◌, ◌++◌, map, drop, flat_map}
use Rattle.wcif_results.specs.{MeetRounds.round_at, model.Opened.round_view}
use Rattle.wcif_results.proofs.meet_rounds.push_event_rounds.Given as goal

-- the rounds so far and those of what is left
abbrev pub invariant-loop-number : goal.invariant-loop-number
invariant-loop-number l =
    map round_view l.rounds.items ++ flat_map (round_at l.meet.accepted l.event)
    (drop l.number-index l.number-items) ≡ map round_view l.initial.rounds.items ++ flat_map
    (round_at l.meet.accepted l.event) l.number-items
