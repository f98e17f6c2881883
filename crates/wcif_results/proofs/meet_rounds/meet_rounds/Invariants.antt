use Rattle.std.proofs.Common.{◌≡◌, ◌++◌, map, drop, flat_map}
use Rattle.wcif_results.specs.{MeetRounds.event_rounds, model.Opened.round_view}
use Rattle.wcif_results.proofs.meet_rounds.meet_rounds.Given as goal

-- the rounds so far and those of what is left
abbrev pub invariant-loop-event : goal.invariant-loop-event
invariant-loop-event l =
    map round_view l.rounds.items ++ flat_map (event_rounds l.meet.accepted)
    (drop l.event-index l.event-items) ≡ flat_map (event_rounds l.meet.accepted) l.event-items
