use Rattle.std.proofs.Common.{◌≡◌, ◌++◌, drop, flat_map}
use Rattle.board_views.specs.Rounds.{rounds_of}
use Rattle.board_views.proofs.all_rounds.push_rounds_of_each.Given as goal

-- the rounds so far, and those of the events that are left
abbrev pub invariant-loop-event : goal.invariant-loop-event
invariant-loop-event l =
    l.rounds.items ++ flat_map rounds_of (drop l.event-index l.events)
    ≡ l.initial.rounds.items ++ flat_map rounds_of l.events
