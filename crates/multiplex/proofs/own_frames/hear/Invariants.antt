use Rattle.std.proofs.Common.{◌≡◌, length}
use Rattle.multiplex.specs.model.{Ticks.desks, Visiting.HearsFirst}
use Rattle.multiplex.proofs.own_frames.hear.Given as goal

-- messages were served, and the connection is the same desk's
abbrev pub invariant-loop-talk : goal.invariant-loop-talk
invariant-loop-talk g l =
    let d = g.D.Desk in
    record {
      hears : HearsFirst d g.P.Peers l.initial.talk.wire l.initial.talk.home l.initial.talk.waiting
          l.talk.waiting (desks l.initial.node l.initial.peers) (desks l.node l.peers);
      home : d.home_of l.node ≡ d.home_of l.initial.node;
      same : l.talk.home ≡ l.initial.talk.home;
      wire : l.talk.wire ≡ l.initial.talk.wire;
    }

abbrev pub decreases-loop-talk : goal.decreases-loop-talk
decreases-loop-talk g l = length l.talk.waiting
