-- A list that is walked through from the front, where something is added at each step.
use Rattle.std.proofs.Common.{◌≡◌, ◌∙◌, ◌++◌, List, [], ap, append_assoc, sym}
use Rattle.std.proofs.lemmas.List.{append-nil}

module _ {X : Type 0} where
  -- a part of what is left was added
  pub added : (old new part rest left all : List X) → new ≡ old ++ part → left ≡ part ++ rest
      → old ++ left ≡ all → new ++ rest ≡ all
  added old new part rest left all adds parts before =
      let one : new ++ rest ≡ old ++ (part ++ rest) =
      ap (λ (t : List X). t ++ rest) adds ∙ simp append_assoc in
      one ∙ sym (ap (λ (t : List X). old ++ t) parts) ∙ before

  -- nothing is left
  pub ended : (new left all : List X) → left ≡ [] → new ++ left ≡ all → new ≡ all
  ended new left all none before =
      sym (ap (λ (t : List X). new ++ t) none ∙ append-nil new) ∙ before
