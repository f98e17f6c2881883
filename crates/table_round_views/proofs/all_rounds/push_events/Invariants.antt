use Rattle.std.proofs.Common.{◌≡◌, ◌++◌, drop, flat_map}
use Rattle.table_round_views.specs.Overview.{event_lines}
use Rattle.table_round_views.proofs.all_rounds.push_events.Given as goal

-- what was written, and what is written for those that are left, is the whole
abbrev pub invariant-loop-event : goal.invariant-loop-event
invariant-loop-event l =
    l.out.items ++ flat_map (event_lines l.meet.accepted) (drop l.event-index l.events)
    ≡ l.initial.out.items ++ flat_map (event_lines l.meet.accepted) l.events
