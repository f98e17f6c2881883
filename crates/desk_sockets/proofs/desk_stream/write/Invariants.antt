use Rattle.std.proofs.Common.{◌≡◌, List, [], Option}
use Rattle.std.specs.declared.net.SocketAddr.{SocketAddr}
use Rattle.desk_sockets.specs.Wires.{Drives}
use Rattle.desk_sockets.proofs.desk_stream.write.Given as goal

abbrev pub invariant-loop-write : goal.invariant-loop-write
invariant-loop-write g l = record {
  keys : g.W.DeskConnection.keys l.wire ≡ g.W.DeskConnection.keys l.fn.wire;
  held : g.D.Dialogue.held l.dialogue ≡ g.D.Dialogue.held l.fn.dialogue;
  went : (addresses : List (Option SocketAddr))
      → Drives g.D.Dialogue.leads g.D.Dialogue.phase g.D.Dialogue.output addresses l.fn.dialogue
      l.dialogue [] (g.W.DeskConnection.wired l.fn.wire) (g.W.DeskConnection.wired l.wire);
}
