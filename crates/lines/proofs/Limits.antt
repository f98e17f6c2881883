-- Bytes are taken exactly as far as they are within the limits.
use Rattle.std.proofs.Common.{◌≡◌, ℕ, ◌+◌, ◌<◌, ◌≤◌, Bool, true, false, cond, ◌==◌, ◌&&◌, ◌||◌}
use Rattle.std.proofs.Common.{nat_le, nat_lt, List, [], ◌∷◌, ◌++◌, length, refl, sym, ap, subst}
use Rattle.std.{proofs.Common.length-append, proofs.Common.arith, specs.List.list_all}
use Rattle.std.proofs.lemmas.Bool.{Decides.nat_tests, leb-true, le-leb}
use Rattle.lines.specs.Lines.{onto, lines_and_rest, lines_of, closed, is_within}
use Rattle.lines.proofs.Machine.{Progress, start, next, after_line, has_room, all_fit}
use Rattle.lines.proofs.Bytewise.{parts, moved, moved_parts, onto_nothing, onto_more, parts_end}

abbrev is_short : List ℕ → Bool
is_short line = nat_le (length line) 10000

-- this many lines and bytes, after those of a state, are within the limits
record Fits (p : Progress) (lines : List (List ℕ)) (n : ℕ) : Type 0 where
  bytes : p.bytes + n ≤ 39387136
  count : p.lines + length lines ≤ 65536
  short : list_all is_short lines ≡ true

abbrev FitsWith : Progress → List ℕ → Type 0
FitsWith p bs = Fits p (closed (parts p.line bs)) (length bs)

-- a state is within the limits
record Inside (p : Progress) : Type 0 where
  bytes : p.bytes ≤ 39387136
  lines : p.lines ≤ 65536
  begun : 0 < length p.line → p.lines < 65536
  short : length p.line ≤ 10000

abbrev room : Bool → Progress → Bool
room t p = nat_lt p.bytes 39387136 && nat_lt p.lines 65536 && (t || nat_lt (length p.line) 10000)

-- ---- one byte

room_bytes : (t : Bool) (p : Progress) → room t p ≡ true → p.bytes < 39387136
room_bytes t p h = grind (arith, nat_tests)

room_lines : (t : Bool) (p : Progress) → room t p ≡ true → p.lines < 65536
room_lines t p h = grind (arith, nat_tests)

room_line : (p : Progress) → room false p ≡ true → length p.line < 10000
room_line p h = grind (arith, nat_tests)

has : (t : Bool) (p : Progress) → p.bytes < 39387136 → p.lines < 65536
    → (t || nat_lt (length p.line) 10000) ≡ true → room t p ≡ true
has t p few_bytes few_lines short = grind (arith, nat_tests)

enter : (t : Bool) (p : Progress) (b : ℕ) → Inside p → room t p ≡ true → Inside (moved t p b)
unfolding after_line
enter true p b inside h =
    let few_bytes = room_bytes true p h in
    let few_lines = room_lines true p h in
    record {
      bytes = omega (arith, few_bytes);
      lines = omega (arith, few_lines);
      begun = λ none. absurd (omega arith);
      short = omega arith;
    }
enter false p b inside h =
    let few_bytes = room_bytes false p h in
    let few_lines = room_lines false p h in
    let short = room_line p h in
    record {
      bytes = omega (arith, few_bytes);
      lines = inside.lines;
      begun = λ some. few_lines;
      short = omega (arith, short, length-append p.line (b ∷ []));
    }

leave : (t : Bool) (p : Progress) (b : ℕ) → Inside (moved t p b) → room t p ≡ true
unfolding after_line
leave true p b inside =
    let few_bytes : p.bytes < 39387136 = omega (arith, inside.bytes) in
    let few_lines : p.lines < 65536 = omega (arith, inside.lines) in
    has true p few_bytes few_lines refl
leave false p b inside =
    let few_bytes : p.bytes < 39387136 = omega (arith, inside.bytes) in
    let few_lines : p.lines < 65536 = inside.begun (omega (arith, length-append p.line (b ∷ []))) in
    let short : length p.line < 10000 =
    omega (arith, inside.short, length-append p.line (b ∷ [])) in
    has false p few_bytes few_lines (grind (arith, nat_tests))

-- the lines after a state, by whether the next byte is a line feed
moved_end : (p : Progress) (b : ℕ) (bs : List ℕ)
    → closed (moved_parts true p b bs) ≡ p.line ∷ closed (parts [] bs)
moved_end p b bs = ap closed (parts_end p.line bs)

moved_in : (p : Progress) (b : ℕ) (bs : List ℕ)
    → closed (moved_parts false p b bs) ≡ closed (parts (p.line ++ b ∷ []) bs)
moved_in p b bs = sym (ap closed (onto_more p.line b (lines_and_rest bs)))

back : (t : Bool) (p : Progress) (b : ℕ) (bs : List ℕ) → Inside p → FitsWith (moved t p b) bs
    → Fits p (closed (moved_parts t p b bs)) (length (b ∷ bs))
unfolding after_line
back true p b bs inside fits = rw (moved_end p b bs) (record {
  bytes = omega (arith, fits.bytes);
  count = omega (arith, fits.count);
  short = rw (le-leb (length p.line) 10000 inside.short) fits.short;
})
back false p b bs inside fits =
    rw (moved_in p b bs)
    (record { bytes = omega (arith, fits.bytes); count = fits.count; short = fits.short })

both : (a b : Bool) → (a && b) ≡ true → (a ≡ true) × (b ≡ true)
both true true h = (refl, refl)
both true false h = (refl, h)
both false b h = (h, absurd (false_true h))
  where
    false_true : false ≡ true → ⊥
    false_true e = cc

forth : (t : Bool) (p : Progress) (b : ℕ) (bs : List ℕ)
    → Fits p (closed (moved_parts t p b bs)) (length (b ∷ bs)) → FitsWith (moved t p b) bs
unfolding after_line
forth true p b bs fits =
    let count : p.lines + length (p.line ∷ closed (parts [] bs)) ≤ 65536 =
    subst (λ (ls : List (List ℕ)). p.lines + length ls ≤ 65536) (moved_end p b bs) fits.count in
    let short : list_all is_short (p.line ∷ closed (parts [] bs)) ≡ true =
    subst (λ (ls : List (List ℕ)). list_all is_short ls ≡ true) (moved_end p b bs) fits.short in
    record {
      bytes = omega (arith, fits.bytes);
      count = omega (arith, count);
      short = (both (is_short p.line) (list_all is_short (closed (parts [] bs))) short).1;
    }
forth false p b bs fits = record {
  bytes = omega (arith, fits.bytes);
  count = subst (λ (ls : List (List ℕ)). p.lines + length ls ≤ 65536) (moved_in p b bs) fits.count;
  short = subst (λ (ls : List (List ℕ)). list_all is_short ls ≡ true) (moved_in p b bs) fits.short;
}

-- ---- all bytes

-- what is within the limits with more bytes is so without
without : (p : Progress) (x : List (List ℕ) × List ℕ) (n : ℕ) → Fits p (closed (onto p.line x)) n
    → Inside p
without p ([], rest) n fits = step (length (p.line ++ rest) == 0) refl fits.count fits.short
  where
    step : (t : Bool) → (length (p.line ++ rest) == 0) ≡ t
        → p.lines + length (cond t [] ((p.line ++ rest) ∷ [])) ≤ 65536
        → list_all is_short (cond t [] ((p.line ++ rest) ∷ [])) ≡ true → Inside p
    step true is count short =
        let none : length (p.line ++ rest) ≡ 0 = grind (arith, nat_tests) in
        record {
          bytes = omega (arith, fits.bytes);
          lines = omega (arith, count);
          begun = λ some. absurd (omega (arith, none, some, length-append p.line rest));
          short = omega (arith, none, length-append p.line rest);
        }
    step false is count short =
        let whole : length (p.line ++ rest) ≤ 10000 =
        leb-true _ _ (both (is_short (p.line ++ rest)) true short).0 in
        record {
          bytes = omega (arith, fits.bytes);
          lines = omega (arith, count);
          begun = λ some. omega (arith, count);
          short = omega (arith, whole, length-append p.line rest);
        }
without p (line ∷ lines, rest) n fits =
    let whole : length (p.line ++ line) ≤ 10000 =
    leb-true _ _
    (both (is_short (p.line ++ line)) (list_all is_short (closed (lines, rest))) fits.short).0 in
    record {
      bytes = omega (arith, fits.bytes);
      lines = omega (arith, fits.count);
      begun = λ some. omega (arith, fits.count);
      short = omega (arith, whole, length-append p.line line);
    }

nothing_more : (p : Progress) → Inside p → FitsWith p []
nothing_more p inside = step (length (p.line ++ []) == 0) refl
  where
    step : (t : Bool) → (length (p.line ++ []) == 0) ≡ t
        → Fits p (cond t [] ((p.line ++ []) ∷ [])) 0
    step true is =
        record {
          bytes = omega (arith, inside.bytes);
          count = omega (arith, inside.lines);
          short = refl;
        }
    step false is =
        let some : 0 < length p.line = grind (arith, nat_tests, length-append p.line []) in
        let few : p.lines < 65536 = inside.begun some in
        let short : length (p.line ++ []) ≤ 10000 =
        omega (arith, inside.short, length-append p.line []) in
        record {
          bytes = omega (arith, inside.bytes);
          count = omega (arith, few);
          short = rw (le-leb _ _ short) refl;
        }

fit_within : (p : Progress) (bs : List ℕ) → Inside p → all_fit p bs ≡ true → FitsWith p bs
unfolding next
fit_within p [] inside h = nothing_more p inside
fit_within p (b ∷ bs) inside h =
    let parts_of = both (has_room p b) (all_fit (next p b) bs) h in
    back (b == 10) p b bs inside
    (fit_within (next p b) bs (enter (b == 10) p b inside parts_of.0) parts_of.1)

within_fit : (p : Progress) (bs : List ℕ) → FitsWith p bs → all_fit p bs ≡ true
unfolding next
within_fit p [] fits = refl
within_fit p (b ∷ bs) fits =
    let more : FitsWith (next p b) bs = forth (b == 10) p b bs fits in
    let inside : Inside (next p b) = without (next p b) (lines_and_rest bs) (length bs) more in
    let has_it : has_room p b ≡ true = leave (b == 10) p b inside in
    rw has_it (within_fit (next p b) bs more)

-- ---- from the start

start_inside : Inside start
start_inside =
    record {
      bytes = omega arith;
      lines = omega arith;
      begun = λ some. absurd (omega arith);
      short = omega arith;
    }

same : (a b : Bool) → (a ≡ true → b ≡ true) → (b ≡ true → a ≡ true) → a ≡ b
same true b f g = sym (f refl)
same false true f g = g refl
same false false f g = refl

input_lines : (bs : List ℕ) → closed (parts [] bs) ≡ lines_of bs
input_lines bs = ap closed (onto_nothing (lines_and_rest bs))

-- bytes are within the limits exactly where the machine takes them all
pub within_fits : (bs : List ℕ) → is_within bs ≡ all_fit start bs
within_fits bs = same (is_within bs) (all_fit start bs) to from
  where
    to : is_within bs ≡ true → all_fit start bs ≡ true
    to h = within_fit start bs (rw (input_lines bs) (record {
      bytes = grind (arith, nat_tests);
      count = grind (arith, nat_tests);
      short = (both _ (list_all is_short (lines_of bs)) h).1;
    }))

    from : all_fit start bs ≡ true → is_within bs ≡ true
    from h =
        let fits : Fits start (lines_of bs) (length bs) =
        rw (← input_lines bs) (fit_within start bs start_inside h) in
        let few_bytes : length bs ≤ 39387136 = omega (arith, fits.bytes) in
        let few_lines : length (lines_of bs) ≤ 65536 = omega (arith, fits.count) in
        rw (le-leb _ _ few_bytes, le-leb _ _ few_lines, fits.short) refl
