use Rattle.std.proofs.Common.{refl, sym, ap, ◌∙◌, [], inl, arith}
use Rattle.serving.specs.{Sessions.line, Turns.Talk}
use Rattle.serving.proofs.Pieces.{nothing_yet, is_open, stops_so_far}
use Rattle.serving.proofs.Waiting.{new_so_far, new_wants, source_more, source_stops}
use Rattle.serving.specs.declared.ends.ConnectionEnd.TheVariants as end
use Rattle.serving.proofs.streams.serve_source.Goals as goal

pub loop-reads-init : goal.loop-reads-init
loop-reads-init g c =
    let is = c.in-Ok.ensures in
    record {
      home = sym (ap (λ (z : Talk). z.home) is);
      first = ap (λ (z : Talk). z.home) is;
      wire = ap (λ (z : Talk). z.wire) is;
      wants = new_wants _ _ _ is;
      within = omega arith;
      counted = c.requires.fresh;
      whole = c.requires.whole;
      so_far = ([], [], [], new_so_far _ _ _ _ _ is);
    }

pub returns-in_default-clause-served : goal.returns-in_default-clause-served
returns-in_default-clause-served g c =
    let so_far = nothing_yet (g.D.Desk.home_of c.args.node.now) _ _ _ refl in
    stops_so_far end.NoMemory (g.D.Desk.home_of c.args.node.now) _ _ [] [] [] _ _ 0 _ _ so_far
    (omega (arith, c.requires.fresh)) c.requires.whole (inl (is_open _ _ _ _ _ _ _ _ _ _ so_far))

pub serve_piece-requires-clause-open : goal.serve_piece-requires-clause-open
serve_piece-requires-clause-open g c = c.loop-reads.invariant.so_far.3.few

pub returns-in-Some-clause-served : goal.returns-in-Some-clause-served
returns-in-Some-clause-served g c =
    let kept = c.loop-reads.invariant in
    let piece = c.serve_piece.ensures.piece in
    source_stops g.D.Desk g.P.Peers g.W.Write g.S.Source c.in-Some.end _ c.args.wire
    (line c.args.node.now c.args.peers.now c.args.writer.now)
    (line c.loop-reads.node c.loop-reads.peers c.loop-reads.writer)
    (line c.serve_piece.new.node c.serve_piece.new.peers c.serve_piece.new.writer)
    c.loop-reads.connection c.serve_piece.new.connection
    _ _ _ _ _ _ _ _ _ kept.so_far.3 c.in-Ok-read_once.ensures.bytes.0 kept.first kept.wire piece
    c.in-Some.is (omega (arith, kept.counted, c.read_once.ensures.counted, c.loop-reads-test.true))
    (c.in-Ok-read_once.ensures.good ∙ kept.whole) c.served-in-Some.ensures

pub loop-reads-preserved-in_default-serve_piece : goal.loop-reads-preserved-in_default-serve_piece
loop-reads-preserved-in_default-serve_piece g c =
    let kept = c.loop-reads.invariant in
    let goes_on = c.serve_piece.ensures.goes_on in
    record {
      home = c.serve_piece.ensures.home ∙ kept.home ∙ sym goes_on.home;
      first = goes_on.home ∙ kept.first;
      wire = goes_on.wire ∙ kept.wire;
      wants = goes_on.wants c.in_default-serve_piece.is;
      within = omega (arith, c.loop-reads-test.true);
      counted = omega (arith, kept.counted, c.read_once.ensures.counted);
      whole = c.in-Ok-read_once.ensures.good ∙ kept.whole;
      so_far =
          source_more g.D.Desk g.P.Peers g.W.Write _ c.args.wire
          (line c.args.node.now c.args.peers.now c.args.writer.now)
          (line c.loop-reads.node c.loop-reads.peers c.loop-reads.writer)
          (line c.serve_piece.new.node c.serve_piece.new.peers c.serve_piece.new.writer)
          c.loop-reads.connection c.serve_piece.new.connection _ _ _ _ _ _ _ _ kept.so_far.3
          c.in-Ok-read_once.ensures.bytes.0 kept.first kept.wire c.serve_piece.ensures.piece
          c.in_default-serve_piece.is;
    }
