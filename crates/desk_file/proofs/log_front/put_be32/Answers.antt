use Rattle.std.proofs.Common.{◌≡◌, ℕ, ◌+◌, ◌*◌, ◌≤◌, List}
use Rattle.std.proofs.Common.{length, set, slice_index, ◌∙◌, arith, rules}
use Rattle.sqlite_wal.specs.Format.{be32}
use Rattle.desk_file.proofs.log_front.put_be32.Goals as goal

four_writes : (b : List ℕ) (at p q r s : ℕ) → at + 4 ≤ length b
    → be32 (set (set (set (set b at p) (at + 1) q) (at + 2) r) (at + 3) s) at ≡ p * 0x100_0000 + q
    * 0x1_0000 + r * 0x100 + s
unfolding be32
four_writes b at p q r s within =
    let all = set (set (set (set b at p) (at + 1) q) (at + 2) r) (at + 3) s in
    let first : slice_index all at ≡ p = search rules in
    let second : slice_index all (at + 1) ≡ q = search rules in
    let third : slice_index all (at + 2) ≡ r = search rules in
    let fourth : slice_index all (at + 3) ≡ s = search rules in
    omega arith

pub returns-clause-written : goal.returns-clause-written
returns-clause-written c = four_writes _ _ _ _ _ _ c.requires ∙ omega arith

first_write : (b : List ℕ) (at p q r s : ℕ) → at + 4 ≤ length b
    → slice_index (set (set (set (set b at p) (at + 1) q) (at + 2) r) (at + 3) s) at ≡ p
first_write b at p q r s within = search rules

pub returns-clause-first : goal.returns-clause-first
returns-clause-first c = first_write _ _ _ _ _ _ c.requires ∙ omega arith
