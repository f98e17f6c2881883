use Rattle.std.proofs.Common.{◌≡◌, ◌+◌, ◌-◌, ◌++◌, flat_map}
use Rattle.std.specs.List.{range_with_len}
use Rattle.table_people_views.specs.People.{competitor_in}
use Rattle.table_people_views.proofs.people.push_competitors.Given as goal

-- what was written, and what is written for the numbers that are left, is the whole
abbrev pub invariant-loop-place : goal.invariant-loop-place
invariant-loop-place l =
    l.out.items
    ++ flat_map (competitor_in l.meet.accepted) (range_with_len (l.place + 1) (l.last - l.place))
    ≡ l.initial.out.items ++ flat_map (competitor_in l.meet.accepted) (range_with_len 1 l.last)
