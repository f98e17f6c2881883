use Rattle.std.proofs.Common.{refl, sym, ◌∙◌}
use Rattle.multiplex.specs.model.Ticks.{desks}
use Rattle.multiplex.proofs.{Heard.first_none, Heard.heard_more, Heard.heard_rest}
use Rattle.multiplex.proofs.Walking.{fewer_wait}
use Rattle.multiplex.proofs.own_frames.hear.Goals as goal

pub loop-talk-init : goal.loop-talk-init
loop-talk-init g c = record {
  hears = first_none g.D.Desk g.P.Peers _ _ _ _;
  home = refl;
  same = refl;
  wire = refl;
}

pub advance-requires : goal.advance-requires
advance-requires g c =
    let at = c.loop-talk.invariant in
    record { home = at.home ∙ c.requires.home ∙ sym at.same; differs = tt }

pub loop-talk-preserved : goal.loop-talk-preserved
loop-talk-preserved g c =
    let at = c.loop-talk.invariant in
    let turn = c.if-not-advance.ensures.turn in
    record {
      hears =
          heard_more g.D.Desk g.P.Peers c.args.talk.now.wire c.args.talk.now.home
          c.args.talk.now.waiting (desks c.args.node.now c.args.peers.now)
          (desks c.loop-talk.node c.loop-talk.peers)
          (desks c.advance.new.node c.advance.new.peers) c.loop-talk.talk c.advance.new.self
          at.same at.wire (sym c.loop-talk-test.ensures) at.hears turn;
      home = c.advance.ensures.home ∙ at.home;
      same = turn.1.home ∙ at.same;
      wire = turn.1.wire ∙ at.wire;
    }

pub loop-talk-smaller : goal.loop-talk-smaller
loop-talk-smaller g c =
    let turn = c.if-not-advance.ensures.turn in
    fewer_wait c.loop-talk.talk.waiting c.advance.new.self.waiting turn.0.frame turn.1.next

pub returns-then-not-advance-clause-hears : goal.returns-then-not-advance-clause-hears
returns-then-not-advance-clause-hears g c =
    heard_rest g.D.Desk g.P.Peers (desks c.args.node.now c.args.peers.now)
    (desks c.loop-talk.node c.loop-talk.peers) (desks c.advance.new.node c.advance.new.peers)
    c.args.talk.now c.loop-talk.talk c.advance.new.self (sym c.loop-talk-test.ensures)
    c.loop-talk.invariant.hears c.if-not-advance.ensures.turn

pub returns-clause-hears : goal.returns-clause-hears
returns-clause-hears g c = record {
  first = c.loop-talk.invariant.hears;
  all = λ free. sym c.loop-talk-test.ensures;
}

pub returns-then-not-advance-clause-home : goal.returns-then-not-advance-clause-home
returns-then-not-advance-clause-home g c = c.advance.ensures.home ∙ c.loop-talk.invariant.home
