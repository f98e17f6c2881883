-- The lines of an input, a line feed after each, are the input.
use Rattle.std.proofs.Common.{◌≡◌, ℕ, Bool, true, false, cond, ◌==◌, List, [], ◌∷◌, ◌++◌, flat_map}
use Rattle.std.proofs.Common.{refl, sym, ap, ◌∙◌, arith}
use Rattle.std.{specs.List.list_all, proofs.lemmas.Bool.Decides.nat_tests}
use Rattle.lines.specs.Lines.{onto, lines_and_rest, whole_lines, rest_of, is_line, AreParts}

abbrev joined : List (List ℕ) × List ℕ → List ℕ
joined x = flat_map (λ line. line ++ 10 ∷ []) x.0 ++ x.1

-- a byte that is no line feed goes in front
joined_onto : (b : ℕ) (x : List (List ℕ) × List ℕ) → joined (onto (b ∷ []) x) ≡ b ∷ joined x
joined_onto b ([], rest) = refl
joined_onto b (line ∷ lines, rest) = refl

abbrev parted : Bool → ℕ → List ℕ → List (List ℕ) × List ℕ
parted t b bs =
    cond t ([] ∷ (lines_and_rest bs).0, (lines_and_rest bs).1) (onto (b ∷ []) (lines_and_rest bs))

joined_lines : (bs : List ℕ) → joined (lines_and_rest bs) ≡ bs
joined_lines [] = refl
joined_lines (b ∷ bs) = step (b == 10) refl (joined_lines bs)
  where
    step : (t : Bool) → (b == 10) ≡ t → joined (lines_and_rest bs) ≡ bs
        → joined (parted t b bs) ≡ b ∷ bs
    step true is h =
        let feed : b ≡ 10 = grind (arith, nat_tests) in
        ap (λ x. 10 ∷ x) h ∙ ap (λ n. n ∷ bs) (sym feed)
    step false is h = joined_onto b (lines_and_rest bs) ∙ ap (λ x. b ∷ x) h

lines_onto : (b : ℕ) (x : List (List ℕ) × List ℕ) → (b == 10) ≡ false → list_all is_line x.0 ≡ true
    → list_all is_line (onto (b ∷ []) x).0 ≡ true
lines_onto b ([], rest) is h = refl
lines_onto b (line ∷ lines, rest) is h = rw is h

rest_onto : (b : ℕ) (x : List (List ℕ) × List ℕ) → (b == 10) ≡ false → is_line x.1 ≡ true
    → is_line (onto (b ∷ []) x).1 ≡ true
rest_onto b ([], rest) is h = rw is h
rest_onto b (line ∷ lines, rest) is h = h

each_line : (bs : List ℕ) → list_all is_line (whole_lines bs) ≡ true
each_line [] = refl
each_line (b ∷ bs) = step (b == 10) refl (each_line bs)
  where
    step : (t : Bool) → (b == 10) ≡ t → list_all is_line (whole_lines bs) ≡ true
        → list_all is_line (parted t b bs).0 ≡ true
    step true is h = h
    step false is h = lines_onto b (lines_and_rest bs) is h

last_line : (bs : List ℕ) → is_line (rest_of bs) ≡ true
last_line [] = refl
last_line (b ∷ bs) = step (b == 10) refl (last_line bs)
  where
    step : (t : Bool) → (b == 10) ≡ t → is_line (rest_of bs) ≡ true
        → is_line (parted t b bs).1 ≡ true
    step true is h = h
    step false is h = rest_onto b (lines_and_rest bs) is h

pub are_parts : (bs : List ℕ) → AreParts bs (whole_lines bs) (rest_of bs)
are_parts bs = record { joined = joined_lines bs; parted = each_line bs; unended = last_line bs }
