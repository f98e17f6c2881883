-- The longest front part of an input that is within the limits.
use Rattle.std.proofs.Common.{◌≡◌, ℕ, ◌+◌, ◌<◌, ◌≤◌, Bool, true, false, cond, ◌&&◌, List, [], ◌∷◌}
use Rattle.std.proofs.Common.{◌++◌, length, take, drop, inl, inr, zero, suc, refl, sym, ap, ◌∙◌}
use Rattle.std.proofs.Common.{append_assoc, append-nil, length-append, arith}
use Rattle.std.proofs.Math.Seq.{take-append_seam}
use Rattle.std.proofs.lemmas.Bool.{cases_lt, false≢true}
use Rattle.std.proofs.lemmas.List.{take-append-drop, take-take}
use Rattle.lines.specs.Lines.{is_within, longest_within, part_within}
use Rattle.lines.proofs.Limits.{within_fits}
use Rattle.lines.proofs.Machine.{start, all_fit, after_bytes, all_fit-append}

-- ---- the longest part within the limits

fits_front : (xs ys : List ℕ) → all_fit start (xs ++ ys) ≡ true → all_fit start xs ≡ true
fits_front xs ys h = step (all_fit start xs) (sym (all_fit-append start xs ys) ∙ h)
  where
    step : (t : Bool) → (t && all_fit (after_bytes start xs) ys) ≡ true → t ≡ true
    step true e = refl
    step false e = e

-- a front part of bytes within the limits is within them
pub within_front : (front rest : List ℕ) → is_within (front ++ rest) ≡ true → is_within front ≡ true
within_front front rest h =
    within_fits front ∙ fits_front front rest (sym (within_fits (front ++ rest)) ∙ h)

shorter : (n m : ℕ) (bs : List ℕ) → n ≤ m → take m bs ≡ take n bs ++ drop n (take m bs)
shorter n m bs h =
    sym (take-append-drop n (take m bs)) ∙ ap (λ x. x ++ drop n (take m bs)) (take-take n m bs h)

within_shorter : (n m : ℕ) (bs : List ℕ) → n ≤ m → is_within (take m bs) ≡ true
    → is_within (take n bs) ≡ true
within_shorter n m bs h fits =
    within_front (take n bs) (drop n (take m bs)) (ap is_within (sym (shorter n m bs h)) ∙ fits)

-- the longest part begins with each part within the limits
pub longest_begins : (m n : ℕ) (bs : List ℕ) → n ≤ m → is_within (take n bs) ≡ true
    → (more : List ℕ) × (longest_within m bs ≡ take n bs ++ more)
longest_begins zero n bs h fits =
    let none : zero ≡ n = omega (arith, h) in
    ([], ap (λ k. take k bs) none ∙ sym (append-nil (take n bs)))
longest_begins (suc m) n bs h fits =
    step (is_within (take (suc m) bs)) refl (λ few. longest_begins m n bs few fits)
  where
    shorter_than : is_within (take (suc m) bs) ≡ false → n ≤ m
    shorter_than is = elim (cases_lt m n) [
      | inl above ↦
          let same : n ≡ suc m = omega (arith, above, h) in
          absurd (false≢true (sym is ∙ ap (λ k. is_within (take k bs)) (sym same) ∙ fits))
      | inr below ↦ below
    ]

    step : (t : Bool) → is_within (take (suc m) bs) ≡ t
        → (n ≤ m → (more : List ℕ) × (longest_within m bs ≡ take n bs ++ more))
        → (more : List ℕ) × (cond t (take (suc m) bs) (longest_within m bs) ≡ take n bs ++ more)
    step true is others = (drop n (take (suc m) bs), shorter n (suc m) bs h)
    step false is others = others (shorter_than is)

-- the longest part ends where one more byte is above the limits
pub longest_ends : (m n : ℕ) (bs : List ℕ) → n ≤ m → is_within (take n bs) ≡ true
    → is_within (take (n + 1) bs) ≡ false → longest_within m bs ≡ take n bs
longest_ends zero n bs h fits over =
    let none : zero ≡ n = omega (arith, h) in
    ap (λ k. take k bs) none
longest_ends (suc m) n bs h fits over =
    step (is_within (take (suc m) bs)) refl (λ few. longest_ends m n bs few fits over)
  where
    longer : is_within (take (suc m) bs) ≡ true → n ≡ suc m
    longer is = elim (cases_lt m n) [
      | inl above ↦ omega (arith, above, h)
      | inr below ↦
          let next_fits : is_within (take (n + 1) bs) ≡ true =
          within_shorter (n + 1) (suc m) bs (omega (arith, below)) is in
          absurd (false≢true (sym over ∙ next_fits))
    ]

    shorter_than : is_within (take (suc m) bs) ≡ false → n ≤ m
    shorter_than is = elim (cases_lt m n) [
      | inl above ↦
          let same : n ≡ suc m = omega (arith, above, h) in
          absurd (false≢true (sym is ∙ ap (λ k. is_within (take k bs)) (sym same) ∙ fits))
      | inr below ↦ below
    ]

    step : (t : Bool) → is_within (take (suc m) bs) ≡ t → (n ≤ m → longest_within m bs ≡ take n bs)
        → cond t (take (suc m) bs) (longest_within m bs) ≡ take n bs
    step true is others = ap (λ k. take k bs) (sym (longer is))
    step false is others = others (shorter_than is)
