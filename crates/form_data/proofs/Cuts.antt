-- The first place of a mark, by places.
use Rattle.std.proofs.Common.{◌≡◌, refl, ℕ, zero, suc, ◌<◌, true, false, nat_eq, List, [], ◌∷◌}
use Rattle.std.proofs.Common.{length, take, drop, Some, None, arith}
use Rattle.std.specs.List.{starts_with}
use Rattle.form_data.specs.Cutting.{cut}

-- a mark that is at a place and at none before it
pub cut_at_place : (mark bytes : List ℕ) (i : ℕ) → i < length bytes
    → ((k : ℕ) → k < i → starts_with nat_eq (drop k bytes) mark ≡ false)
    → starts_with nat_eq (drop i bytes) mark ≡ true
    → cut mark bytes ≡ Some (take i bytes, drop (length mark) (drop i bytes))
cut_at_place mark [] i within before here = absurd (omega arith)
cut_at_place mark (b ∷ bytes) zero within before here = rw here refl
cut_at_place mark (b ∷ bytes) (suc i) within before here =
    let no : starts_with nat_eq (b ∷ bytes) mark ≡ false = before 0 (omega arith) in
    let rest : cut mark bytes ≡ Some (take i bytes, drop (length mark) (drop i bytes)) =
    cut_at_place mark bytes i (omega arith) (λ k below. before (suc k) (omega arith)) here in
    rw (no, rest) refl

-- a mark that is at no place
pub cut_nowhere : (mark bytes : List ℕ)
    → ((k : ℕ) → k < length bytes → starts_with nat_eq (drop k bytes) mark ≡ false)
    → cut mark bytes ≡ None
cut_nowhere mark [] before = refl
cut_nowhere mark (b ∷ bytes) before =
    let no : starts_with nat_eq (b ∷ bytes) mark ≡ false = before 0 (omega arith) in
    let rest : cut mark bytes ≡ None =
    cut_nowhere mark bytes (λ k below. before (suc k) (omega arith)) in
    rw (no, rest) refl
