use Rattle.std.proofs.Common.{◌≡◌, take}
use Rattle.desk_sockets.specs.Keying.{keys_of}
use Rattle.mio_sockets.specs.{Calling.AreUnder, Wiring.lines_from, Wiring.lines_of}
use Rattle.mio_sockets.proofs.desk_links.neighbours.Given as goal

-- the desks at the addresses so far, and the keys of the connections to them
abbrev pub invariant-loop-place : goal.invariant-loop-place
invariant-loop-place g l = record {
  lines : lines_of l.desks.items ≡ lines_from 1 (take l.place l.addresses);
  keys : AreUnder (keys_of l.caller.key l.caller.former) l.desks.items;
}
