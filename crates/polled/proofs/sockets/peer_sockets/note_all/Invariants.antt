use Rattle.std.proofs.Common.{◌≡◌}
use Rattle.polled.proofs.sockets.peer_sockets.note_all.Given as goal

abbrev pub invariant-loop-event : goal.invariant-loop-event
invariant-loop-event l = record {
  most : l.streams.most ≡ l.initial.streams.most;
  staying : l.streams.staying ≡ l.initial.streams.staying;
}
