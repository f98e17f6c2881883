-- A list of what is to count again, from one place on.
use Rattle.std.proofs.Common.{◌≡◌, ◌∙◌, ◌+◌, ◌-◌, ◌++◌, ◌∷◌, ◌<◌, [], ℕ, List, Option, None, Some}
use Rattle.std.proofs.Common.{ap, append_assoc, arith, map, refl, suc, sym}
use Rattle.std.specs.{List.range_with_len, Option.option_and_then, Option.option_map}
use Rattle.texts.specs.Fields.{all_of}

module _ {X : Type 0} (f : ℕ → Option X) where
  abbrev pub back_from : ℕ → ℕ → Option (List X)
  back_from i n = all_of (map f (range_with_len i (n - i)))

  first_of : (i n : ℕ) → i < n
      → back_from i n ≡ option_and_then (λ y. option_map (λ ys. y ∷ ys) (back_from (i + 1) n)) (f i)
  first_of i n below =
      let more : n - i ≡ suc (n - (i + 1)) = omega (arith, below) in
      ap (λ k. all_of (map f (range_with_len i k))) more

  joined : (x : X) (old new : List X) → new ≡ old ++ x ∷ [] → (rest : Option (List X))
      → option_map (λ xs. new ++ xs) rest
      ≡ option_map (λ xs. old ++ xs) (option_map (λ ys. x ∷ ys) rest)
  joined x old new adds None = refl
  joined x old new adds (Some ys) =
      ap Some (ap (λ (t : List X). t ++ ys) adds ∙ simp append_assoc)

  module _ (i n : ℕ) (old : List X) (all : Option (List X))
      (before : option_map (λ xs. old ++ xs) (back_from i n) ≡ all) where
    pub back_more : (x : X) (new : List X) → i < n → f i ≡ Some x → new ≡ old ++ x ∷ []
        → option_map (λ xs. new ++ xs) (back_from (i + 1) n) ≡ all
    back_more x new below is adds =
        joined x old new adds (back_from (i + 1) n)
        ∙ ap (λ (o : Option (List X)). option_map (λ xs. old ++ xs) o) (sym (first_of i n below
        ∙ ap (λ (o : Option X).
        option_and_then (λ y. option_map (λ ys. y ∷ ys) (back_from (i + 1) n)) o) is))
        ∙ before

    pub back_none : i < n → f i ≡ None → all ≡ None
    back_none below is =
        sym before
        ∙ ap (λ (o : Option (List X)). option_map (λ xs. old ++ xs) o) (first_of i n below
        ∙ ap (λ (o : Option X).
        option_and_then (λ y. option_map (λ ys. y ∷ ys) (back_from (i + 1) n)) o) is)
