use Rattle.std.proofs.Common.{◌≡◌, drop}
use Rattle.mio_sockets.specs.Waiting.{sooner, soonest}
use Rattle.mio_sockets.proofs.desk_links.soonest.Given as goal

-- the shortest wait of those so far, with that of the others
abbrev pub invariant-loop-place : goal.invariant-loop-place
invariant-loop-place g l =
    sooner l.wait (soonest (drop l.place l.desks) l.now) ≡ soonest l.desks l.now
