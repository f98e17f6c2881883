use Rattle.std.proofs.Common.{◌≡◌, ◌++◌, drop, flat_map}
use Rattle.table_people_views.specs.People.{open_choice}
use Rattle.table_people_views.proofs.people.push_open_events.Given as goal

-- what was written, and what is written for those that are left, is the whole
abbrev pub invariant-loop-event : goal.invariant-loop-event
invariant-loop-event l =
    l.out.items ++ flat_map (open_choice l.meet.accepted) (drop l.event-index l.events)
    ≡ l.initial.out.items ++ flat_map (open_choice l.meet.accepted) l.events
