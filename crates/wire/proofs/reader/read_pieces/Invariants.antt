use Rattle.std.proofs.Common.{take}
use Rattle.wire.specs.Stream.{Feeds, stream_of}
use Rattle.wire.proofs.reader.read_pieces.Given as goal

-- what was read so far
abbrev pub invariant-loop-piece : goal.invariant-loop-piece
invariant-loop-piece l = Feeds (stream_of (take l.piece-index l.pieces)) l.frames.items l.reader
