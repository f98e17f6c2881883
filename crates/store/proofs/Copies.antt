-- One more entry is copied.
use Rattle.std.proofs.Common.{◌≡◌, ℕ, ◌+◌, ◌<◌, ◌≤◌, List, [], ◌∷◌, ◌++◌, take, length, get_or}
use Rattle.std.proofs.Common.{slice_get, Some, None, sym, ap, ◌∙◌, arith}
use Rattle.std.proofs.lemmas.List.{take_more, take_all}
use Rattle.std.proofs.lemmas.Option.{slice_get_within, get_or_from_slice_get, slice_get-get_or}

pub one_more : {X : Type 0} (copy xs : List X) (i : ℕ) (x : X) → copy ≡ take i xs
    → slice_get xs i ≡ Some x → copy ++ x ∷ [] ≡ take (i + 1) xs
one_more copy xs i x same at =
    let here : get_or xs i x ≡ x = get_or_from_slice_get xs i x x at in
    ap (λ ys. ys ++ x ∷ []) same ∙ ap (λ y. take i xs ++ y ∷ []) (sym here)
    ∙ sym (take_more xs i x (slice_get_within xs i x at))

pub all_copied : {X : Type 0} (copy xs : List X) (i : ℕ) → copy ≡ take i xs → length xs ≤ i
    → copy ≡ xs
all_copied copy xs i same past = same ∙ take_all i xs past

pub there : {X : Type 0} (xs : List X) (i : ℕ) → i < length xs → slice_get xs i ≡ None → ⊥
there [] i within none = omega (arith, within)
there (x ∷ xs) i within none =
    let e = sym (slice_get-get_or (x ∷ xs) i x within) ∙ none in absurd cc
