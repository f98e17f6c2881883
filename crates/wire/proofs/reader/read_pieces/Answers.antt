use Rattle.std.proofs.Common.{◌≡◌, rules, arith}
use Rattle.wire.specs.declared.fault.WireFault.TheVariants.{NoMemory}
use Rattle.wire.proofs.Pieces.{nothing_read, fault_in, fault_known, all_in, read_alike}
use Rattle.wire.proofs.reader.read_pieces.Goals as goal

-- src/reader.rt:177:5
pub loop-piece-init : goal.loop-piece-init
loop-piece-init c = nothing_read c.new-frames.result.items c.in_ok-reader.reader
    c.new-frames.ensures.items c.in_ok-reader.ensures

-- src/reader.rt:182:17
pub returns-in-Err : goal.returns-in-Err
returns-in-Err c =
    let other : c.in-Err.fault ≡ NoMemory → ⊥ = λ h. first_of (search rules, grind (arith, h)) in
    let found = fault_in (λ piece. piece.items) c.args.pieces.now c.loop-piece.piece-index
    c.piece-item.result c.deref.result.now c.loop-piece.frames.items c.loop-piece.reader
    c.feed.new.self c.in-Err.fault c.loop-piece-test.true c.piece-item.is c.deref.ensures.value
    c.loop-piece.invariant
    (fault_known c.in-Err.fault c.deref.result.now c.loop-piece.reader c.feed.new.self
    c.in-Err.ensures.refused other) in
    record { splits = found; only = λ others fault other. read_alike _ _ _ _ _ found other }

-- src/reader.rt:171:1
pub returns-clause-only : goal.returns-clause-only
returns-clause-only c =
    let read = all_in (λ piece. piece.items) c.args.pieces.now c.loop-piece.piece-index
    c.loop-piece.frames.items c.loop-piece.reader c.fault-fault.result c.loop-piece-test.false
    c.loop-piece.invariant c.fault-fault.ensures.fault c.fault-fault.ensures.kept in
    λ others fault other. read_alike _ _ _ _ _ read other
