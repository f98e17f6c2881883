-- A text is mended byte by byte.
use Rattle.std.proofs.Common.{◌≡◌, ℕ, zero, suc, ◌+◌, ◌-◌, ◌<◌, true, false, List, [], ◌∷◌, ◌++◌}
use Rattle.std.proofs.Common.{length, take, drop, get_or, bytes_eq, refl, sym, ap, ◌∙◌, arith}
use Rattle.std.proofs.{Common.append_assoc, lemmas.List.at_drop_more}
use Rattle.scorecard.specs.Spelling.{apostrophe, mended_after}

-- what is left after one byte
pub mended_skips : (skipped i : ℕ) (bytes : List ℕ) → i < length bytes → 0 < skipped
    → mended_after skipped (drop i bytes) ≡ mended_after (skipped - 1) (drop (i + 1) bytes)
mended_skips zero i bytes within some = absurd (omega arith)
mended_skips (suc k) i bytes within some =
    at_drop_more (mended_after (suc k)) bytes i 0 within
    ∙ ap (λ n. mended_after n (drop (i + 1) bytes)) (omega arith)

pub mended_quote : (i : ℕ) (bytes : List ℕ) → i < length bytes
    → bytes_eq apostrophe (take 3 (drop i bytes)) ≡ true
    → mended_after 0 (drop i bytes) ≡ 39 ∷ mended_after 2 (drop (i + 1) bytes)
mended_quote i bytes within is =
    let here : bytes_eq apostrophe (take 3 (get_or bytes i 0 ∷ drop (i + 1) bytes)) ≡ true =
    sym (at_drop_more (λ x. bytes_eq apostrophe (take 3 x)) bytes i 0 within) ∙ is in
    at_drop_more (mended_after 0) bytes i 0 within ∙ rw here refl

pub mended_plain : (i : ℕ) (bytes : List ℕ) → i < length bytes
    → bytes_eq apostrophe (take 3 (drop i bytes)) ≡ false
    → mended_after 0 (drop i bytes) ≡ get_or bytes i 0 ∷ mended_after 0 (drop (i + 1) bytes)
mended_plain i bytes within is =
    let here : bytes_eq apostrophe (take 3 (get_or bytes i 0 ∷ drop (i + 1) bytes)) ≡ false =
    sym (at_drop_more (λ x. bytes_eq apostrophe (take 3 x)) bytes i 0 within) ∙ is in
    at_drop_more (mended_after 0) bytes i 0 within ∙ rw here refl

-- a step of the loop that leaves a byte out
pub after_skip : (items bytes all : List ℕ) (skipped skipped' i : ℕ) → i < length bytes
    → 0 < skipped → skipped' ≡ skipped - 1 → items ++ mended_after skipped (drop i bytes) ≡ all
    → items ++ mended_after skipped' (drop (i + 1) bytes) ≡ all
after_skip items bytes all skipped skipped' i within some is before =
    ap (λ n. items ++ mended_after n (drop (i + 1) bytes)) is
    ∙ ap (λ x. items ++ x) (sym (mended_skips skipped i bytes within some)) ∙ before

-- a step of the loop that adds a byte
pub after_push : (items items' bytes all : List ℕ) (b skipped skipped' i : ℕ) → skipped ≡ 0
    → items' ≡ items ++ b ∷ []
    → mended_after 0 (drop i bytes) ≡ b ∷ mended_after skipped' (drop (i + 1) bytes)
    → items ++ mended_after skipped (drop i bytes) ≡ all
    → items' ++ mended_after skipped' (drop (i + 1) bytes) ≡ all
after_push items items' bytes all b skipped skipped' i none pushed more before =
    ap (λ x. x ++ mended_after skipped' (drop (i + 1) bytes)) pushed
    ∙ append_assoc items (b ∷ []) (mended_after skipped' (drop (i + 1) bytes))
    ∙ ap (λ x. items ++ x) (sym more)
    ∙ ap (λ n. items ++ mended_after n (drop i bytes)) (sym none) ∙ before
