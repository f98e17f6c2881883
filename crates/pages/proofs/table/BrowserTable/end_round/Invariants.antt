use Rattle.std.proofs.Common.{◌≡◌}
use Rattle.indexmap.specs.IndexMap.{index_map_len}
use Rattle.pages.specs.{Asking.EndsSome, Kept.Keeps}
use Rattle.polled.specs.Requests.{Asks}
use Rattle.pages.proofs.table.BrowserTable.end_round.Given as goal

abbrev pub invariant-loop-number : goal.invariant-loop-number
invariant-loop-number g l = record {
  kept : Keeps g.C.Sockets.happened l.fn.self l.self;
  terms : l.self.terms ≡ l.fn.self.terms;
  turns : l.self.turns ≡ l.fn.self.turns;
  next : l.self.next ≡ l.fn.self.next;
  time : l.self.now ≡ l.fn.now;
  asks : Asks g.C.Sockets.requests l.fn.self.sockets l.self.sockets
      (EndsSome l.fn.now l.fn.self l.self);
}

abbrev pub decreases-loop-number : goal.decreases-loop-number
decreases-loop-number g l = index_map_len l.self.browsers
