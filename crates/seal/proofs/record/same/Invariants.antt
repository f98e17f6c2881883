use Rattle.std.proofs.Common.{◌≡◌, ◌<◌, ℕ, List, slice_index}
use Rattle.seal.proofs.record.same.Given as goal

-- the bytes so far are the same exactly where there is no difference
pub record IsSoFar (tag other : List ℕ) (i difference : ℕ) : Type 0 where
  pub same : difference ≡ 0 → (k : ℕ) → k < i → slice_index tag k ≡ slice_index other k
  pub none : tag ≡ other → difference ≡ 0

abbrev pub invariant-loop-i : goal.invariant-loop-i
invariant-loop-i l = IsSoFar l.tag l.other l.i l.difference
