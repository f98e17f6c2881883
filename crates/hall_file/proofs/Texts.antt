-- When two texts are the same, by their bytes.
use Rattle.std.proofs.Common.{◌≡◌, ℕ, List, Decides, true, refl, sym, ◌∙◌, map, ap, length, get_or}
use Rattle.std.proofs.Common.{◌<◌, [], ◌∷◌, Bool, ◌||◌}
use Rattle.std.{specs.List.list_any, specs.Prelude.bytes_eq, proofs.lemmas.List.Folds.list_any_at}
use Rattle.std.proofs.lemmas.{Bool.Decides.Decides-eqb, Slice.Eq.slice_eq-Decides}

pub same_texts : (a b : List ℕ) → Decides (bytes_eq a b) (a ≡ b)
same_texts a b = slice_eq-Decides Decides-eqb a b (bytes_eq a b) refl

any_map : {X : Type 0} (p : List ℕ → Bool) (h : X → List ℕ) (xs : List X)
    → list_any p (map h xs) ≡ list_any (λ x. p (h x)) xs
any_map p h [] = refl
any_map p h (x ∷ xs) = ap (λ later. p (h x) || later) (any_map p h xs)

-- an item that passes, as a loop finds it
pub any_named : {X : Type 0} (p : List ℕ → Bool) (h : X → List ℕ) (xs : List X) (i : ℕ) (x : X)
    → i < length xs → x ≡ get_or xs i x → p (h x) ≡ true → true ≡ list_any p (map h xs)
any_named p h xs i x within is passes =
    sym (any_map p h xs
    ∙ list_any_at (λ y. p (h y)) xs i x within (ap (λ y. p (h y)) (sym is) ∙ passes))
