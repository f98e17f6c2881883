use Rattle.std.proofs.Common.{◌≡◌, List, length}
use Rattle.serving.{specs.Connection.Begun, proofs.Waiting.HasServed}
use Rattle.serving.specs.Sessions.{line, sides_of}
use Rattle.serving.proofs.streams.serve_waiting.Given as goal

-- the frames so far are served, and their answers are written
abbrev pub invariant-loop-may : goal.invariant-loop-may
invariant-loop-may g l = record {
  home : g.D.Desk.home_of l.node ≡ l.connection.home;
  begun : List Begun;
  served : HasServed l.fn.may l.initial.connection.home
      (sides_of g.D.Desk g.P.Peers g.W.Write l.initial.connection.wire
      (line l.initial.node l.initial.peers l.initial.writer))
      (sides_of g.D.Desk g.P.Peers g.W.Write l.initial.connection.wire
      (line l.node l.peers l.writer)) l.initial.connection l.connection begun;
}

abbrev pub decreases-loop-may : goal.decreases-loop-may
decreases-loop-may g l = length l.connection.waiting
