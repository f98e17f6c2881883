use Rattle.std.proofs.Common.{◌≡◌, ℕ, List, ◌-◌, ◌≤◌}
use Rattle.serving.specs.{Connection.Begun, Sessions.line, Sessions.sides_of, Turns.WantsRead}
use Rattle.serving.proofs.Pieces.{SoFar}
use Rattle.serving.proofs.streams.serve_source.Given as goal

-- all frames read so far are served
abbrev pub invariant-loop-reads : goal.invariant-loop-reads
invariant-loop-reads g l = record {
  home : g.D.Desk.home_of l.node ≡ l.connection.home;
  first : l.connection.home ≡ g.D.Desk.home_of l.initial.node;
  wire : l.connection.wire ≡ l.fn.wire;
  wants : WantsRead l.connection;
  within : l.reads ≤ 19200256;
  counted : g.S.Source.reads l.source ≡ l.reads;
  whole : g.S.Source.failed l.source ≡ 0;
  so_far : (bytes : List ℕ) × (begun : List Begun) × (rest : List ℕ)
      × SoFar l.fn.may (g.D.Desk.home_of l.initial.node)
      (sides_of g.D.Desk g.P.Peers g.W.Write l.fn.wire
      (line l.initial.node l.initial.peers l.initial.writer))
      (sides_of g.D.Desk g.P.Peers g.W.Write l.fn.wire (line l.node l.peers l.writer))
      bytes begun rest (g.S.Source.remaining l.initial.source) (g.S.Source.remaining l.source)
      l.connection.frames l.connection.stream;
}

abbrev pub decreases-loop-reads : goal.decreases-loop-reads
decreases-loop-reads g l = 19200256 - l.reads
