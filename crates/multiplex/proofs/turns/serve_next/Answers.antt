use Rattle.std.proofs.Common.{refl, ◌∙◌, subst, sym, [], None, Some}
use Rattle.multiplex.specs.{Noting.AreNoted, Noting.ears, model.Visiting.spot}
use Rattle.multiplex.proofs.Walking.{hears_fewer, hears_more, hears_none, hears_then, until_same}
use Rattle.multiplex.proofs.turns.serve_next.Goals as goal

pub loop-talk-init : goal.loop-talk-init
loop-talk-init g c = record {
  hears =
      hears_none g.D.Desk g.P.Peers Some c.args.number c.args.notes.now.known
      c.args.differs.now c.args.node.now c.args.peers.now [] c.args.talk.now;
  home = refl;
  same = refl;
  until = refl;
  noted = c.requires.noted;
}

pub loop-talk-preserved : goal.loop-talk-preserved
loop-talk-preserved g c =
    let d = g.D.Desk in
    let at = c.loop-talk in
    let hears = hears_more d g.P.Peers Some c.args.number
    (ears (d.seen c.args.node.now) c.args.notes.now.known c.args.differs.now) c.advance.result
    (spot c.args.node.now c.args.peers.now [] c.args.talk.now) at.notes c.listen.new.notes
    at.differs c.listen.new.differs at.node c.advance.new.node at.peers c.advance.new.peers []
    at.talk c.advance.new.self (at.invariant.home ∙ c.requires.home) at.invariant.hears
    (c.loop-talk-test.ensures.0 refl) c.listen.ensures.notes c.listen.ensures.differs
    c.advance.ensures.turn in
    record {
      hears = hears;
      home = c.advance.ensures.home ∙ at.invariant.home;
      same = hears.1.1.home;
      until =
          until_same (d.home_of at.node) at.talk at.notes c.listen.new.notes
          c.listen.ensures.notes ∙ at.invariant.until;
      noted = c.listen.ensures.noted;
    }

pub loop-talk-smaller : goal.loop-talk-smaller
loop-talk-smaller g c =
    hears_fewer g.D.Desk g.P.Peers c.listen.new.differs c.advance.result _ _ _ _ _ _
    (c.loop-talk-test.ensures.0 refl) c.advance.ensures.turn

pub returns-clause-served : goal.returns-clause-served
returns-clause-served g c =
    let at = c.loop-talk in
    hears_then g.D.Desk g.P.Peers Some c.args.number c.args.time None c.serve_one.result
    c.args.dear.now.spent c.serve_one.new.dear.spent c.args.notes.now at.notes c.serve_one.new.notes
    c.args.differs.now at.differs (spot c.args.node.now c.args.peers.now [] c.args.talk.now)
    (spot at.node at.peers [] at.talk)
    (spot c.serve_one.new.node c.serve_one.new.peers [] c.serve_one.new.talk) at.invariant.until
    c.serve_one.ensures.known at.invariant.hears c.serve_one.ensures.served

pub returns-clause-noted : goal.returns-clause-noted
returns-clause-noted g c =
    subst (λ k. AreNoted k c.loop-talk.differs) (sym c.serve_one.ensures.known)
    c.loop-talk.invariant.noted
