use Rattle.std.proofs.Common.{◌≤◌}
use Rattle.hall.proofs.world.Happening.{FirstPlaces}
use Rattle.hall.proofs.world.desks.Desks.new.Given as goal

-- the desks so far are as they are at first
abbrev pub invariant-loop-number : goal.invariant-loop-number
invariant-loop-number l = (1 ≤ l.number) × FirstPlaces l.count 1 l.number l.desks.items
