use Rattle.std.proofs.Common.{◌≡◌, ◌+◌, ◌++◌, ℕ, List, take, sym, subst, arith}
use Rattle.std.{specs.Global.Vec, proofs.lemmas.List.take_all}
use Rattle.seal.{specs.Streams.Reads, proofs.Feeding.reads_fed, proofs.Feeding.stream_next}
use Rattle.seal.{specs.Streams.stream_of, proofs.Reading.reads_all, proofs.Reading.reads_only}
use Rattle.seal.proofs.opener.open_pieces.Goals as goal

pub loop-piece-preserved : goal.loop-piece-preserved
loop-piece-preserved c =
    let pieces = c.args.pieces.now in let i = c.loop-piece.piece-index in
    let before = stream_of (take i pieces) in let piece = c.deref.result.now in
    let new = c.feed.new.self in
    let read = reads_fed c.args.channel 0 before c.loop-piece.bytes.items piece
    c.in_ok-feed.field-0.items c.loop-piece.opener new c.loop-piece.invariant
    c.in_ok-feed.ensures.fed in
    let next = stream_next pieces i c.piece-item.result piece c.loop-piece-test.true c.piece-item.is
    c.deref.ensures.value in
    let all = c.loop-piece.bytes.items ++ c.in_ok-feed.field-0.items in
    let there = subst (λ (s : List ℕ). Reads c.args.channel 0 s all new) (sym next) read in
    subst (λ (x : List ℕ). Reads c.args.channel 0 (stream_of (take (i + 1) pieces)) x new)
    (sym c.in_ok-append.ensures.items) there

pub returns-clause-only : goal.returns-clause-only
returns-clause-only c =
    let pieces = c.args.pieces.now in let i = c.loop-piece.piece-index in
    let all : take i pieces ≡ pieces = take_all i pieces (omega (arith, c.loop-piece-test.false)) in
    let read = subst (λ (ps : List (Vec ℕ)).
    Reads c.args.channel 0 (stream_of ps) c.loop-piece.bytes.items c.loop-piece.opener) all
    c.loop-piece.invariant in
    reads_only c.args.channel (stream_of pieces) c.loop-piece.bytes.items c.fault-fault.result
    (reads_all c.args.channel (stream_of pieces) c.loop-piece.bytes.items c.loop-piece.opener
    c.fault-fault.result read c.fault-fault.ensures)
