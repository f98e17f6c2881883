use Rattle.std.proofs.Common.{◌≡◌, ℕ, List}
use Rattle.std.specs.Io.KnownBytes.{Consumes}
use Rattle.wire.specs.Stream.{Waits, front, holding}
use Rattle.client.proofs.hearing.hear.Given as goal

-- the bytes so far are fewer than a frame's, and the stream holds them
abbrev pub invariant-loop-read : goal.invariant-loop-read
invariant-loop-read g l =
    (bytes : List ℕ)
    × Consumes (g.R.Read.remaining l.initial.reader) (g.R.Read.remaining l.reader) bytes
    × (l.stream ≡ holding bytes) × (front bytes ≡ Waits)
