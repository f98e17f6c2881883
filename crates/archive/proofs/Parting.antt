-- Lines with a line feed behind each are read as these lines.
use Rattle.std.proofs.Common.{◌≡◌, ℕ, ◌*◌, ◌≤◌, Bool, true, false, cond, ◌||◌, ◌==◌, not, nat_le}
use Rattle.std.proofs.Common.{List, [], ◌∷◌, ◌++◌, length, refl, ap, ◌∙◌, arith, append_assoc}
use Rattle.std.proofs.{Common.append-nil, Common.length-append, lemmas.Bool.Decides.nat_tests}
use Rattle.std.specs.List.{list_all, list_any}
use Rattle.std.proofs.lemmas.Bool.{false≢true}
use Rattle.texts.proofs.Cuts.{and-true}
use Rattle.lines.specs.Lines.{onto, lines_and_rest, lines_of, is_line, is_within}
use Rattle.archive.specs.Archive.{bytes_of}

abbrev Parts : Type 0
Parts = List (List ℕ) × List ℕ

abbrev parts-of : List (List ℕ) → List ℕ → Parts
parts-of lines rest = (lines, rest)

-- a line in front of what these bytes are as lines
abbrev in-front : List ℕ → List ℕ → Parts
in-front line more = parts-of (line ∷ (lines_and_rest more).0) (lines_and_rest more).1

-- a line without a line feed, and one behind it, is the first line
first-line : (line more : List ℕ) → is_line line ≡ true → lines_and_rest (line ++ 10 ∷ more)
    ≡ in-front line more
first-line [] more h = refl
first-line (b ∷ line) more h = step (b == 10) h (first-line line more)
  where
    step : (t : Bool) → not (t || list_any (λ x. x == 10) line) ≡ true
        → (is_line line ≡ true → lines_and_rest (line ++ 10 ∷ more) ≡ in-front line more)
        → cond t (in-front [] (line ++ 10 ∷ more))
        (onto (b ∷ []) (lines_and_rest (line ++ 10 ∷ more))) ≡ in-front (b ∷ line) more
    step true plain rest = absurd (false≢true plain)
    step false plain rest = ap (onto (b ∷ [])) (rest plain)

parts-joined : (lines : List (List ℕ)) → list_all is_line lines ≡ true
    → lines_and_rest (bytes_of lines) ≡ parts-of lines []
parts-joined [] h = refl
parts-joined (line ∷ lines) h =
    let both = and-true (is_line line) (list_all is_line lines) h in
    ap lines_and_rest (append_assoc line (10 ∷ []) (bytes_of lines))
    ∙ first-line line (bytes_of lines) both.0
    ∙ ap (λ (p : Parts). parts-of (line ∷ p.0) p.1) (parts-joined lines both.1)

pub lines-joined : (lines : List (List ℕ)) → list_all is_line lines ≡ true
    → lines_of (bytes_of lines) ≡ lines
lines-joined lines h = rw (parts-joined lines h) (append-nil lines)

-- ---- limits

abbrev pub is_short : List ℕ → Bool
is_short line = nat_le (length line) 600

joined-length : (lines : List (List ℕ)) → list_all is_short lines ≡ true
    → length (bytes_of lines) ≤ 601 * length lines
joined-length [] h = omega arith
joined-length (line ∷ lines) h =
    let both = and-true (is_short line) (list_all is_short lines) h in
    let short : length line ≤ 600 = let test = both.0 in grind (arith, nat_tests) in
    let rest = joined-length lines both.1 in
    let parts = length-append (line ++ 10 ∷ []) (bytes_of lines) in
    let first = length-append line (10 ∷ []) in
    omega arith

short-within : (lines : List (List ℕ)) → list_all is_short lines ≡ true
    → list_all (λ line. nat_le (length line) 10000) lines ≡ true
short-within [] h = refl
short-within (line ∷ lines) h =
    let both = and-true (is_short line) (list_all is_short lines) h in
    let fits : nat_le (length line) 10000 ≡ true = let test = both.0 in grind (arith, nat_tests) in
    rw (fits, short-within lines both.1) refl

pub joined-within : (lines : List (List ℕ)) → list_all is_line lines ≡ true
    → list_all is_short lines ≡ true → length lines ≤ 65536 → is_within (bytes_of lines) ≡ true
joined-within lines are short few =
    let size = joined-length lines short in
    let bytes : nat_le (length (bytes_of lines)) 39387136 ≡ true = grind (arith, nat_tests) in
    let count : nat_le (length lines) 65536 ≡ true = grind (arith, nat_tests) in
    rw (bytes, lines-joined lines are, count, short-within lines short) refl
