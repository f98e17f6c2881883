use Rattle.std.proofs.Common.{◌≡◌, [], Some, length}
use Rattle.multiplex.specs.Noting.{AreNoted, ears}
use Rattle.multiplex.specs.model.Visiting.{HearsDesks, spot}
use Rattle.multiplex.proofs.turns.serve_next.Given as goal

-- messages of desks were heard and served, and the connection is the same desk's
abbrev pub invariant-loop-talk : goal.invariant-loop-talk
invariant-loop-talk g l =
    let d = g.D.Desk in
    record {
      hears : HearsDesks d g.P.Peers Some l.number
          (ears (d.seen l.initial.node) l.initial.notes.known l.initial.differs) l.notes.known
          l.differs (spot l.initial.node l.initial.peers [] l.initial.talk)
          (spot l.node l.peers [] l.talk);
      home : d.home_of l.node ≡ d.home_of l.initial.node;
      same : l.talk.talk.home ≡ l.initial.talk.talk.home;
      until : l.notes.until ≡ l.initial.notes.until;
      noted : AreNoted l.notes.known l.differs;
    }

abbrev pub decreases-loop-talk : goal.decreases-loop-talk
decreases-loop-talk g l = length l.talk.talk.waiting
