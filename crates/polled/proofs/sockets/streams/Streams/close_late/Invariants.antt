use Rattle.std.proofs.Common.{◌≡◌}
use Rattle.indexmap.specs.IndexMap.{index_map_len}
use Rattle.polled.specs.sockets.Streams.{without_late}
use Rattle.polled.proofs.sockets.streams.Streams.close_late.Given as goal

abbrev pub invariant-loop-self : goal.invariant-loop-self
invariant-loop-self l = record {
  staying : l.self.staying ≡ l.initial.self.staying;
  ending : without_late l.now l.self.ending.entries
      ≡ without_late l.now l.initial.self.ending.entries;
  most : l.self.most ≡ l.initial.self.most;
}

abbrev pub decreases-loop-self : goal.decreases-loop-self
decreases-loop-self l = index_map_len l.self.ending
