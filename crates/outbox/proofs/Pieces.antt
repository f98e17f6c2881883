-- The whole lines of a file, and what is after them.
use Rattle.std.proofs.Common.{◌≡◌, ℕ, ◌<◌, ◌==◌, Bool, true, false, cond, List, [], ◌∷◌, ◌++◌}
use Rattle.std.proofs.Common.{All, length, refl, sym, ap, ◌∙◌, arith, append_assoc}
use Rattle.std.specs.List.{onto_first}
use Rattle.std.proofs.lemmas.List.Splits.{length-slice_split, slice_split_at}
use Rattle.outbox.specs.Lines.{all_but_last, cut_line, last_of, parts, whole_lines, with_end}

abbrev pub IsNoEnd : ℕ → Type 0
IsNoEnd b = (b == 10) ≡ false

pub some_parts : (bytes : List ℕ) → 0 < length (parts bytes)
some_parts bytes = omega (arith, length-slice_split (λ b. b == 10) bytes)

pub first_whole : (x : List ℕ) (xs : List (List ℕ)) → 0 < length xs
    → all_but_last (x ∷ xs) ≡ x ∷ all_but_last xs
first_whole x [] some = absurd (omega arith)
first_whole x (y ∷ xs) some = refl

pub first_other : (x : List ℕ) (xs : List (List ℕ)) → 0 < length xs → last_of (x ∷ xs) ≡ last_of xs
first_other x [] some = absurd (omega arith)
first_other x (y ∷ xs) some = refl

front_whole : (xs ys : List (List ℕ)) → 0 < length ys
    → all_but_last (xs ++ ys) ≡ xs ++ all_but_last ys
front_whole [] ys some = refl
front_whole (x ∷ xs) ys some =
    first_whole x (xs ++ ys) (longer xs) ∙ ap (λ zs. x ∷ zs) (front_whole xs ys some)
  where
    longer : (zs : List (List ℕ)) → 0 < length (zs ++ ys)
    longer [] = some
    longer (z ∷ zs) = omega arith

front_other : (xs ys : List (List ℕ)) → 0 < length ys → last_of (xs ++ ys) ≡ last_of ys
front_other [] ys some = refl
front_other (x ∷ xs) ys some =
    first_other x (xs ++ ys) (longer xs) ∙ front_other xs ys some
  where
    longer : (zs : List (List ℕ)) → 0 < length (zs ++ ys)
    longer [] = some
    longer (z ∷ zs) = omega arith

-- one more byte in front of the first part
onto : (b : ℕ) (ps more : List (List ℕ)) → 0 < length ps → last_of (onto_first b ps) ≡ []
    → ((last_of ps ≡ [])
    × (onto_first b (all_but_last ps ++ more) ≡ all_but_last (onto_first b ps) ++ more))
onto b [] more some none = absurd (omega arith)
onto b (p ∷ []) more some none = absurd (cc)
onto b (p ∷ q ∷ ps) more some none = (none, refl)

-- what follows whole lines is parted by itself
pub parts_after : (before after : List ℕ) → cut_line before ≡ []
    → parts (before ++ after) ≡ whole_lines before ++ parts after
parts_after [] after none = refl
parts_after (b ∷ before) after none =
    step (b == 10) none (λ h. parts_after before after h)
  where
    step : (t : Bool) → last_of (cond t ([] ∷ parts before) (onto_first b (parts before))) ≡ []
        → (cut_line before ≡ [] → parts (before ++ after) ≡ whole_lines before ++ parts after)
        → cond t ([] ∷ parts (before ++ after)) (onto_first b (parts (before ++ after)))
        ≡ all_but_last (cond t ([] ∷ parts before) (onto_first b (parts before)))
        ++ parts after
    step true ends others =
        let some = some_parts before in
        let rest = others (sym (first_other [] (parts before) some) ∙ ends) in
        ap (λ x. [] ∷ x) rest
        ∙ ap (λ x. x ++ parts after) (sym (first_whole [] (parts before) some))
    step false ends others =
        let both = onto b (parts before) (parts after) (some_parts before) ends in
        ap (onto_first b) (others both.0) ∙ both.1

pub whole_after : (before after : List ℕ) → cut_line before ≡ []
    → whole_lines (before ++ after) ≡ whole_lines before ++ whole_lines after
whole_after before after none =
    ap all_but_last (parts_after before after none)
    ∙ front_whole (whole_lines before) (parts after) (some_parts after)

pub cut_after : (before after : List ℕ) → cut_line before ≡ []
    → cut_line (before ++ after) ≡ cut_line after
cut_after before after none =
    ap last_of (parts_after before after none)
    ∙ front_other (whole_lines before) (parts after) (some_parts after)

line_parts : (line after : List ℕ) → All IsNoEnd line
    → parts (with_end line ++ after) ≡ line ∷ parts after
line_parts line after free =
    rw append_assoc (slice_split_at (λ b. b == 10) line 10 after free refl)

pub whole_line : (line after : List ℕ) → All IsNoEnd line
    → whole_lines (with_end line ++ after) ≡ line ∷ whole_lines after
whole_line line after free =
    ap all_but_last (line_parts line after free)
    ∙ first_whole line (parts after) (some_parts after)

pub cut_line_after : (line after : List ℕ) → All IsNoEnd line
    → cut_line (with_end line ++ after) ≡ cut_line after
cut_line_after line after free =
    ap last_of (line_parts line after free)
    ∙ first_other line (parts after) (some_parts after)
