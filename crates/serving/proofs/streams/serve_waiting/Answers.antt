use Rattle.std.proofs.Common.{sym, subst, ◌∙◌, [], length, rules}
use Rattle.serving.specs.{Sessions.line, model.Sessions.ServesWaiting}
use Rattle.serving.proofs.Waiting.{served_none, waiting_more, waiting_cut, waiting_done, fewer_wait}
use Rattle.serving.proofs.streams.serve_waiting.Goals as goal

pub loop-may-init : goal.loop-may-init
loop-may-init g c = record {
  home = c.requires.home;
  begun = [];
  served = served_none c.args.connection.now.home _ _ c.requires.free c.requires.open;
}

pub advance-requires : goal.advance-requires
advance-requires g c = record { home = c.loop-may.invariant.home; differs = tt }

pub returns-then-is_err-clause-waiting : goal.returns-then-is_err-clause-waiting
returns-then-is_err-clause-waiting g c =
    let kept = c.loop-may.invariant in
    let turn = c.loop-may-test.ensures.turn in
    waiting_cut g.D.Desk g.P.Peers g.W.Write c.args.connection.now c.loop-may.connection
    c.advance.new.self c.write_out.new.self
    (line c.args.node.now c.args.peers.now c.args.writer.now)
    (line c.loop-may.node c.loop-may.peers c.loop-may.writer)
    (line c.advance.new.node c.advance.new.peers c.write_out.new.writer) kept.begun turn.0
    kept.served turn.1 turn.3 turn.2 (search rules) (search rules) (search rules)

pub returns-then-is_err-clause-home : goal.returns-then-is_err-clause-home
returns-then-is_err-clause-home g c =
    let kept = c.loop-may.invariant in
    c.advance.ensures.home ∙ kept.home ∙ kept.served.home ∙ sym c.requires.home

pub loop-may-smaller : goal.loop-may-smaller
loop-may-smaller g c =
    let turn = c.loop-may-test.ensures.turn in
    fewer_wait c.loop-may.connection c.advance.new.self c.write_out.new.self turn.0.frame
    (length c.advance.new.self.pending) turn.1 (search rules)

pub loop-may-preserved : goal.loop-may-preserved
loop-may-preserved g c =
    let kept = c.loop-may.invariant in
    let turn = c.loop-may-test.ensures.turn in
    let served =
    waiting_more g.D.Desk g.P.Peers g.W.Write c.args.connection.now c.loop-may.connection
    c.advance.new.self c.write_out.new.self
    (line c.args.node.now c.args.peers.now c.args.writer.now)
    (line c.loop-may.node c.loop-may.peers c.loop-may.writer)
    (line c.advance.new.node c.advance.new.peers c.write_out.new.writer) kept.begun turn.0
    kept.served turn.1 turn.3 turn.2 (search rules) (search rules) in
    record {
      home = c.advance.ensures.home ∙ kept.home ∙ kept.served.home ∙ sym served.home;
      begun = _;
      served = served;
    }

pub returns-clause-waiting : goal.returns-clause-waiting
returns-clause-waiting g c =
    let kept = c.loop-may.invariant in
    let turn = c.loop-may-test.ensures.turn in
    subst (λ z. ServesWaiting g.D.Desk g.P.Peers g.W.Write c.args.may z c.args.connection.now
    c.advance.new.self (line c.args.node.now c.args.peers.now c.args.writer.now)
    (line c.advance.new.node c.advance.new.peers c.loop-may.writer)) (sym c.end.ensures)
    (waiting_done g.D.Desk g.P.Peers g.W.Write c.args.connection.now c.loop-may.connection
    c.advance.new.self (line c.args.node.now c.args.peers.now c.args.writer.now)
    (line c.loop-may.node c.loop-may.peers c.loop-may.writer)
    c.advance.new.node c.advance.new.peers kept.begun kept.served turn.0 turn.1 turn.2)

pub returns-clause-home : goal.returns-clause-home
returns-clause-home g c =
    let kept = c.loop-may.invariant in
    c.advance.ensures.home ∙ kept.home ∙ kept.served.home ∙ sym c.requires.home
