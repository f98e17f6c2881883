use Rattle.std.proofs.Common.{◌≡◌, map, drop}
use Rattle.std.specs.Prelude.{find}
use Rattle.schedule_views.specs.Spots.{is_spot, seen}
use Rattle.schedule_views.proofs.spots.spot_with.Given as goal

-- the answer is that of what is left
abbrev pub invariant-loop-spot : goal.invariant-loop-spot
invariant-loop-spot l =
    find (is_spot l.id) (map seen l.spots)
    ≡ find (is_spot l.id) (map seen (drop l.spot-index l.spots))
