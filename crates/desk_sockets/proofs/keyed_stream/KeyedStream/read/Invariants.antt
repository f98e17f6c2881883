use Rattle.std.specs.Prelude.{◌≡◌, Some}
use Rattle.sealed.specs.ends.ClientStreams.{own_key}
use Rattle.desk_sockets.specs.Answering.{Hands}
use Rattle.desk_sockets.proofs.Reading.{Run}
use Rattle.desk_sockets.proofs.keyed_stream.KeyedStream.read.Given as goal

abbrev pub invariant-loop-read : goal.invariant-loop-read
invariant-loop-read g l = record {
  key : own_key l.self.call ≡ own_key l.fn.self.call;
  run : Run g.S.Read.remaining l.fn.self.socket l.self.socket l.fn.self.call l.self.call
      l.fn.handed.items l.handed.items l.fn.answering l.answering;
  hands : Hands g.S.Read.remaining (Some l.fn.self.call) l.fn.handed.items l.handed.items
      l.fn.answering l.answering;
}
