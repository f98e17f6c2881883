-- Bytes taken one by one come to the lines of the whole text.
use Rattle.std.proofs.Common.{length, add-zero, arith, ◌≡◌, ℕ, ◌+◌, Bool, true, false, cond, ◌==◌}
use Rattle.std.proofs.Common.{List, [], ◌∷◌, ◌++◌, refl, sym, ap, ◌∙◌, append_assoc, append-nil}
use Rattle.lines.proofs.Machine.{Progress, start, next, after_line, counted, with_byte, after_bytes}
use Rattle.lines.proofs.Machine.{count_bytes}
use Rattle.lines.specs.Lines.{onto, lines_and_rest, whole_lines, rest_of}

pub onto_nothing : (x : List (List ℕ) × List ℕ) → onto [] x ≡ x
onto_nothing ([], rest) = refl
onto_nothing (line ∷ lines, rest) = refl

pub onto_more : (text : List ℕ) (b : ℕ) (x : List (List ℕ) × List ℕ)
    → onto (text ++ b ∷ []) x ≡ onto text (onto (b ∷ []) x)
onto_more text b ([], rest) =
    ap (λ (r : List ℕ). let y : List (List ℕ) × List ℕ = ([], r) in y)
    (append_assoc text (b ∷ []) rest)
onto_more text b (line ∷ lines, rest) =
    ap (λ (l : List ℕ). let y : List (List ℕ) × List ℕ = (l ∷ lines, rest) in y)
    (append_assoc text (b ∷ []) line)

onto_end : (text : List ℕ) (x : List (List ℕ) × List ℕ)
    → onto text ([] ∷ x.0, x.1) ≡ (text ∷ x.0, x.1)
onto_end text x =
    ap (λ (l : List ℕ). let y : List (List ℕ) × List ℕ = (l ∷ x.0, x.1) in y) (append-nil text)

-- what a line that has begun and more bytes are, as lines
abbrev pub parts : List ℕ → List ℕ → List (List ℕ) × List ℕ
parts line bs = onto line (lines_and_rest bs)

-- a byte ends the line, or is in it
pub parts_end : (line bs : List ℕ) → onto line ([] ∷ (lines_and_rest bs).0, (lines_and_rest bs).1)
    ≡ (line ∷ (parts [] bs).0, (parts [] bs).1)
parts_end line bs =
    onto_end line (lines_and_rest bs)
    ∙ ap (λ (x : List (List ℕ) × List ℕ). let y : List (List ℕ) × List ℕ = (line ∷ x.0, x.1) in y)
    (sym (onto_nothing (lines_and_rest bs)))

-- a state after a byte, by whether the byte is a line feed
abbrev pub moved : Bool → Progress → ℕ → Progress
moved t p b = cond t (after_line (counted p)) (with_byte (counted p) b)

abbrev pub moved_parts : Bool → Progress → ℕ → List ℕ → List (List ℕ) × List ℕ
moved_parts t p b bs =
    onto p.line
    (cond t ([] ∷ (lines_and_rest bs).0, (lines_and_rest bs).1) (onto (b ∷ []) (lines_and_rest bs)))

-- the line that has begun is what is after the last line feed
pub line_of_rest : (p : Progress) (bs : List ℕ) → (after_bytes p bs).line ≡ (parts p.line bs).1
unfolding next after_line
line_of_rest p [] = sym (append-nil p.line)
line_of_rest p (b ∷ bs) = step (b == 10) (line_of_rest (next p b) bs)
  where
    step : (t : Bool) → (after_bytes (moved t p b) bs).line ≡ (parts (moved t p b).line bs).1
        → (after_bytes (moved t p b) bs).line ≡ (moved_parts t p b bs).1
    step true h = h ∙ sym (ap (λ (x : List (List ℕ) × List ℕ). x.1) (parts_end p.line bs))
    step false h =
        h ∙ ap (λ (x : List (List ℕ) × List ℕ). x.1) (onto_more p.line b (lines_and_rest bs))

-- each line feed counts a line
pub count_of_lines : (p : Progress) (bs : List ℕ)
    → (after_bytes p bs).lines ≡ p.lines + length (parts p.line bs).0
unfolding next after_line
count_of_lines p [] = sym (add-zero p.lines)
count_of_lines p (b ∷ bs) = step (b == 10) (count_of_lines (next p b) bs)
  where
    step : (t : Bool) → (after_bytes (moved t p b) bs).lines
        ≡ (moved t p b).lines + length (parts (moved t p b).line bs).0
        → (after_bytes (moved t p b) bs).lines ≡ p.lines + length (moved_parts t p b bs).0
    step true h =
        let more : p.lines + 1 + length (parts [] bs).0
        ≡ p.lines + length (p.line ∷ (parts [] bs).0) = omega arith in
        h
        ∙ more
        ∙ sym (ap (λ (x : List (List ℕ) × List ℕ). p.lines + length x.0) (parts_end p.line bs))
    step false h =
        h
        ∙ ap (λ (x : List (List ℕ) × List ℕ). p.lines + length x.0)
        (onto_more p.line b (lines_and_rest bs))

-- ---- from the start

pub rest_of_input : (bs : List ℕ) → (after_bytes start bs).line ≡ rest_of bs
rest_of_input bs =
    line_of_rest start bs
    ∙ ap (λ (x : List (List ℕ) × List ℕ). x.1) (onto_nothing (lines_and_rest bs))

pub count_of_input : (bs : List ℕ) → (after_bytes start bs).lines ≡ length (whole_lines bs)
count_of_input bs =
    count_of_lines start bs
    ∙ ap (λ (x : List (List ℕ) × List ℕ). 0 + length x.0) (onto_nothing (lines_and_rest bs))
    ∙ omega arith

pub bytes_of_input : (bs : List ℕ) → (after_bytes start bs).bytes ≡ length bs
bytes_of_input bs = count_bytes start bs ∙ omega arith
