use Rattle.std.proofs.Common.{◌≡◌, ◌<◌, ℕ, List, slice_index, bit_xor, length}
use Rattle.seal.proofs.mac.padded.Given as goal

-- the bytes so far
pub record IsSoFar (bytes block : List ℕ) (pad i : ℕ) : Type 0 where
  pub long : length bytes ≡ length block
  pub done : (k : ℕ) → k < i → slice_index bytes k ≡ bit_xor (slice_index block k) pad

abbrev pub invariant-loop-i : goal.invariant-loop-i
invariant-loop-i l = IsSoFar l.bytes l.block l.pad l.i
