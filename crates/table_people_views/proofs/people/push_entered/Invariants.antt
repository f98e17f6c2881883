use Rattle.std.proofs.Common.{◌≡◌, ◌++◌, drop, flat_map}
use Rattle.table_people_views.specs.People.{entered_in}
use Rattle.table_people_views.proofs.people.push_entered.Given as goal

-- what was written, and what is written for those that are left, is the whole
abbrev pub invariant-loop-event : goal.invariant-loop-event
invariant-loop-event l =
    l.out.items ++ flat_map (entered_in l.meet.accepted l.number) (drop l.event-index l.events)
    ≡ l.initial.out.items ++ flat_map (entered_in l.meet.accepted l.number) l.events
