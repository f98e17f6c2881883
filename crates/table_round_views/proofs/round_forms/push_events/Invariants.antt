use Rattle.std.proofs.Common.{◌≡◌, ◌++◌, drop, flat_map}
use Rattle.table_round_views.specs.Rounds.{event_row}
use Rattle.table_round_views.proofs.round_forms.push_events.Given as goal

-- what was written, and what is written for those that are left, is the whole
abbrev pub invariant-loop-event : goal.invariant-loop-event
invariant-loop-event l =
    l.out.items ++ flat_map (event_row l.meet.accepted) (drop l.event-index l.events)
    ≡ l.initial.out.items ++ flat_map (event_row l.meet.accepted) l.events
