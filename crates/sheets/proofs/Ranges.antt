-- One more number of a range.
use Rattle.std.proofs.Common.{◌≡◌, ℕ, ◌+◌, suc, List, [], ◌∷◌, ◌++◌, map, ap, sym, ◌∙◌, arith, refl}
use Rattle.std.proofs.Common.{zero, flat_map, add-zero, zero-add, add-one, append-nil, append_assoc}
use Rattle.std.specs.List.{range_with_len}
use Rattle.std.proofs.lemmas.{Grind.flat_map-append, List.FromFn.map-range_with_len_more}

range_push : (a n : ℕ) → range_with_len a (suc n) ≡ range_with_len a n ++ (a + n) ∷ []
range_push a zero = ap (λ m. m ∷ []) (sym (add-zero a))
range_push a (suc n) =
    ap (λ ms. a ∷ ms) (range_push (a + 1) n ∙ ap (λ m. range_with_len (a + 1) n ++ m ∷
    []) (omega arith))

-- one more column
pub range_more : (f : ℕ → List ℕ) (n : ℕ) → flat_map f (range_with_len 0 (n + 1))
    ≡ flat_map f (range_with_len 0 n) ++ f n
range_more f n =
    ap (λ m. flat_map f (range_with_len 0 m)) (add-one n)
    ∙ ap (flat_map f) (range_push 0 n)
    ∙ flat_map-append f (range_with_len 0 n) ((0 + n) ∷ [])
    ∙ ap (λ x. flat_map f (range_with_len 0 n) ++ x) (append-nil (f (0 + n)) ∙ ap f (zero-add n))

-- one more field behind those of a range
pub field_more : (f : ℕ → List ℕ) (a n m : ℕ) (text : List ℕ) (old now new : List (List ℕ))
    → now ≡ old ++ map f (range_with_len a n) → new ≡ now ++ text ∷ [] → text ≡ f m → m ≡ a + n
    → new ≡ old ++ map f (range_with_len a (n + 1))
field_more f a n m text old now new so_far more is at =
    more
    ∙ ap (λ x. now ++ x ∷ []) (is ∙ ap f at)
    ∙ ap (λ x. x ++ f (a + n) ∷ []) so_far
    ∙ append_assoc old (map f (range_with_len a n)) (f (a + n) ∷ [])
    ∙ ap (λ x. old ++ x) (sym (map-range_with_len_more f a n (a + n) refl))
