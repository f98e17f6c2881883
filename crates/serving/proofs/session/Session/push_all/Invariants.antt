use Rattle.std.proofs.Common.{List, length}
use Rattle.acceptor.specs.declared.message.Message.{Message}
use Rattle.learner.specs.Ranges.{AreInRange}
use Rattle.serving.specs.model.Pushing.{PushesFront}
use Rattle.serving.proofs.session.Session.push_all.Given as goal

abbrev pub invariant-loop-message : goal.invariant-loop-message
invariant-loop-message g l = record {
  range : AreInRange l.self.home.desks l.self.home.desk l.waiting.items;
  so_far : (front : List Message)
      × PushesFront l.self.wire l.self.home.hall l.initial.waiting.items front l.waiting.items
      (g.P.Peers.handed l.initial.peers) (g.P.Peers.handed l.peers);
}

abbrev pub decreases-loop-message : goal.decreases-loop-message
decreases-loop-message g l = length l.waiting.items
