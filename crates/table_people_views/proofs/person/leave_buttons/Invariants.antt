use Rattle.std.proofs.Common.{◌≡◌, ◌++◌, drop, flat_map}
use Rattle.table_people_views.specs.Person.{leave_event}
use Rattle.table_people_views.proofs.person.leave_buttons.Given as goal

-- what was written, and what is written for those that are left, is the whole
abbrev pub invariant-loop-event : goal.invariant-loop-event
invariant-loop-event l =
    l.buttons.items
    ++ flat_map (leave_event l.meet.accepted l.number) (drop l.event-index l.events)
    ≡ flat_map (leave_event l.meet.accepted l.number) l.events
