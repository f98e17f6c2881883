use Rattle.std.proofs.Common.{◌≡◌, ◌<◌, []}
use Rattle.desk_sockets.specs.{Asking.AsksLast, Wires.Drives}
use Rattle.desk_sockets.proofs.desk_stream.fulfil_all.Given as goal

abbrev pub invariant-loop-wish : goal.invariant-loop-wish
invariant-loop-wish g l = record {
  keys : g.W.DeskConnection.keys l.wire ≡ g.W.DeskConnection.keys l.fn.wire;
  held : g.D.Dialogue.held l.dialogue ≡ g.D.Dialogue.held l.fn.dialogue;
  went : Drives g.D.Dialogue.leads g.D.Dialogue.phase g.D.Dialogue.output l.addresses l.fn.dialogue
      l.dialogue [] (g.W.DeskConnection.wired l.fn.wire) (g.W.DeskConnection.wired l.wire);
  asked : 0 < l._wish → AsksLast g.D.Dialogue.leads l.now l.fn.dialogue l.dialogue;
}
