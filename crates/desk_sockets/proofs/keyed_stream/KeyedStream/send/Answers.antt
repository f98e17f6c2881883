use Rattle.std.proofs.Common.{refl, rules}
use Rattle.desk_sockets.proofs.Reading.{sent_more}
use Rattle.desk_sockets.proofs.keyed_stream.KeyedStream.send.Goals as goal

pub loop-write-init : goal.loop-write-init
loop-write-init g c = record { key = refl; sent = refl }

pub loop-write-preserved : goal.loop-write-preserved
loop-write-preserved g c = record {
  key = search rules;
  sent = sent_more c.args.self.now.call _ c.loop-write.invariant.sent c.sent.ensures;
}
