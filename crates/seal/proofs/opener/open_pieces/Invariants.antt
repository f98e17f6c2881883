use Rattle.std.proofs.Common.{take}
use Rattle.seal.specs.Streams.{Reads, stream_of}
use Rattle.seal.proofs.opener.open_pieces.Given as goal

-- what was read so far
abbrev pub invariant-loop-piece : goal.invariant-loop-piece
invariant-loop-piece l =
    Reads l.fn.channel 0 (stream_of (take l.piece-index l.pieces)) l.bytes.items l.opener
