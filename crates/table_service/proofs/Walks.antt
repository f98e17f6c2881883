-- Lists that are walked through from the front, where something is added at each step.
use Rattle.std.proofs.Common.{◌≡◌, ◌∙◌, ◌+◌, ◌-◌, ◌++◌, ◌∷◌, ◌<◌, ◌≤◌, ℕ, List, ap, suc, drop, sym}
use Rattle.std.proofs.Common.{[], add-one, append_assoc, arith, drop-cons, flat_map, get_or, length}
use Rattle.std.{proofs.lemmas.List.append-nil, specs.List.range_with_len}

module _ {X : Type 0} where
  -- what is left from a place on
  pub split : (xs : List X) (i : ℕ) (x : X) → i < length xs → x ≡ get_or xs i x
      → drop i xs ≡ x ∷ drop (i + 1) xs
  split xs i x within is =
      let whole : drop i xs ≡ get_or xs i x ∷ drop (i + 1) xs = rw (add-one, drop-cons xs i x) in
      whole ∙ ap (λ (y : X). y ∷ drop (i + 1) xs) (sym is)

  -- a part of what is left was added
  pub added : (old new part rest left all : List X) → new ≡ old ++ part → left ≡ part ++ rest
      → old ++ left ≡ all → new ++ rest ≡ all
  added old new part rest left all adds parts before =
      let one : new ++ rest ≡ old ++ (part ++ rest) =
      ap (λ (t : List X). t ++ rest) adds ∙ simp append_assoc in
      one ∙ sym (ap (λ (t : List X). old ++ t) parts) ∙ before

  -- nothing is left
  pub ended : (new left all : List X) → left ≡ [] → new ++ left ≡ all → new ≡ all
  ended new left all none before =
      sym (ap (λ (t : List X). new ++ t) none ∙ append-nil new) ∙ before

module _ {X : Type 0} (f : ℕ → List X) where
  -- what is left of a range
  pub range_split : (i n : ℕ) → i < n → flat_map f (range_with_len i (n - i))
      ≡ f i ++ flat_map f (range_with_len (i + 1) (n - (i + 1)))
  range_split i n below =
      let more : n - i ≡ suc (n - (i + 1)) = omega arith in
      ap (λ k. flat_map f (range_with_len i k)) more

  pub range_ends : (i n : ℕ) → n ≤ i → flat_map f (range_with_len i (n - i)) ≡ []
  range_ends i n past =
      let none : n - i ≡ 0 = omega arith in ap (λ k. flat_map f (range_with_len i k)) none
