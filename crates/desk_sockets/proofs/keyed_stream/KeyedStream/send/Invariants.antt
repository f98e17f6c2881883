use Rattle.std.specs.Prelude.{◌≡◌}
use Rattle.sealed.specs.ends.ClientStreams.{own_key}
use Rattle.desk_sockets.proofs.keyed_stream.KeyedStream.send.Given as goal

abbrev pub invariant-loop-write : goal.invariant-loop-write
invariant-loop-write g l = record {
  key : own_key l.self.call ≡ own_key l.fn.self.call;
  sent : l.self.call ≡ record l.fn.self.call { output = l.self.call.output };
}
