use Rattle.std.proofs.Common.{◌≡◌, take}
use Rattle.hall.specs.world.WorldValues.{extended}
use Rattle.hall.proofs.world.world.World.run.Given as goal

-- the events of the list so far were done
abbrev pub invariant-loop-event : goal.invariant-loop-event
invariant-loop-event l = l.self ≡ extended l.initial.self (take l.event-index l.events)
