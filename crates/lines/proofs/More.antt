-- One more byte after bytes: their lines, and whether they are within the limits.
use Rattle.std.proofs.Common.{◌≡◌, ℕ, ◌+◌, ◌<◌, ◌≤◌, Bool, true, false, cond, ◌==◌, ◌&&◌, List, []}
use Rattle.std.proofs.Common.{◌∷◌, ◌++◌, length, take, refl, sym, ap, ◌∙◌, append_assoc, append-nil}
use Rattle.std.proofs.{Common.length-append, Common.subst, Common.arith, Math.Seq.take-append_seam}
use Rattle.lines.specs.Lines.{onto, lines_and_rest, whole_lines, rest_of, lines_of, closed}
use Rattle.lines.specs.Lines.{is_within, longest_within, part_within, lines_read}
use Rattle.lines.{specs.Reading.has_room, proofs.Limits.within_fits}
use Rattle.lines.proofs.Longest.{within_front, longest_begins, longest_ends}
use Rattle.lines.proofs.Bytewise.{rest_of_input, count_of_input, bytes_of_input}
use Rattle.lines.proofs.Machine as machine

-- lines with one more byte after them
abbrev pub with_more : Bool → List (List ℕ) × List ℕ → ℕ → List (List ℕ) × List ℕ
with_more t parts b = cond t (parts.0 ++ parts.1 ∷ [], []) (parts.0, parts.1 ++ b ∷ [])

abbrev in_front : Bool → ℕ → List (List ℕ) × List ℕ → List (List ℕ) × List ℕ
in_front t b parts = cond t ([] ∷ parts.0, parts.1) (onto (b ∷ []) parts)

-- a byte before and a byte after
both_ends : (s t : Bool) (a b : ℕ) (parts : List (List ℕ) × List ℕ)
    → in_front s a (with_more t parts b) ≡ with_more t (in_front s a parts) b
both_ends true true a b parts = refl
both_ends true false a b parts = refl
both_ends false true a b ([], rest) = refl
both_ends false true a b (line ∷ lines, rest) = refl
both_ends false false a b ([], rest) = refl
both_ends false false a b (line ∷ lines, rest) = refl

pub lines_more : (bs : List ℕ) (b : ℕ)
    → lines_and_rest (bs ++ b ∷ []) ≡ with_more (b == 10) (lines_and_rest bs) b
lines_more [] b = step (b == 10)
  where
    step : (t : Bool) → in_front t b ([], []) ≡ with_more t ([], []) b
    step true = refl
    step false = refl
lines_more (a ∷ bs) b =
    ap (in_front (a == 10) a) (lines_more bs b)
    ∙ both_ends (a == 10) (b == 10) a b (lines_and_rest bs)

-- the room after bytes
abbrev pub room_behind : List ℕ → ℕ → Bool
room_behind bs b = has_room (length bs) (length (whole_lines bs)) (length (rest_of bs)) b

pub within_more : (bs : List ℕ) (b : ℕ)
    → is_within (bs ++ b ∷ []) ≡ (is_within bs && room_behind bs b)
within_more bs b =
    within_fits (bs ++ b ∷ [])
    ∙ machine.all_fit-append machine.start bs (b ∷ [])
    ∙ rw (← within_fits bs, rest_of_input bs, count_of_input bs, bytes_of_input bs)
    (alone (is_within bs) (room_behind bs b))
  where
    alone : (s t : Bool) → (s && (t && true)) ≡ (s && t)
    alone true true = refl
    alone true false = refl
    alone false t = refl

-- bytes with nothing after their last line feed are whole lines
pub all_whole : (bs : List ℕ) → rest_of bs ≡ [] → lines_of bs ≡ whole_lines bs
all_whole bs h =
    ap (λ (rest : List ℕ). closed (whole_lines bs, rest)) h ∙ append-nil (whole_lines bs)

-- what is above the limits with fewer bytes is so with more
pub above_with_more : (bs more : List ℕ) → is_within bs ≡ false → is_within (bs ++ more) ≡ false
above_with_more bs more h = step (is_within (bs ++ more)) refl
  where
    step : (t : Bool) → is_within (bs ++ more) ≡ t → t ≡ false
    step false is = refl
    step true is = sym (within_front bs more is) ∙ h

-- where one more byte is above the limits, the longest part within them ends in front of it
pub longest_in_front : (bs : List ℕ) (b : ℕ) (more : List ℕ) → is_within bs ≡ true
    → is_within (bs ++ b ∷ []) ≡ false → part_within (bs ++ b ∷ more) ≡ bs
longest_in_front bs b more fits over =
    let front : take (length bs) (bs ++ b ∷ more) ≡ bs = take-append_seam bs (b ∷ more) in
    let count : length (bs ++ b ∷ []) ≡ length bs + 1 = length-append bs (b ∷ []) in
    let longer : take (length bs + 1) (bs ++ b ∷ more) ≡ bs ++ b ∷ [] =
    ap (λ n. take n (bs ++ b ∷ more)) (sym count)
    ∙ ap (take (length (bs ++ b ∷ []))) (sym (append_assoc bs (b ∷ []) more))
    ∙ take-append_seam (bs ++ b ∷ []) more in
    longest_ends (length (bs ++ b ∷ more)) (length bs) (bs ++ b ∷ more)
    (omega (arith, length-append bs (b ∷ more))) (ap is_within front ∙ fits)
    (ap is_within longer ∙ over)
    ∙ front

-- whole lines stay whole with more after them
pub whole_begins : (bs more : List ℕ)
    → (others : List (List ℕ)) × (whole_lines (bs ++ more) ≡ whole_lines bs ++ others)
whole_begins bs [] = ([], ap whole_lines (append-nil bs) ∙ sym (append-nil (whole_lines bs)))
whole_begins bs (b ∷ more) =
    let rest = whole_begins (bs ++ b ∷ []) more in
    let one = step (b == 10) in (
      one.0 ++ rest.0,
      ap whole_lines (sym (append_assoc bs (b ∷ []) more))
          ∙ rest.1
          ∙ ap (λ (parts : List (List ℕ) × List ℕ). parts.0 ++ rest.0) (lines_more bs b)
          ∙ ap (λ (lines : List (List ℕ)). lines ++ rest.0) one.1
          ∙ append_assoc (whole_lines bs) one.0 rest.0,
    )
  where
    step : (t : Bool) → (others : List (List ℕ))
        × ((with_more t (lines_and_rest bs) b).0 ≡ whole_lines bs ++ others)
    step true = (rest_of bs ∷ [], refl)
    step false = ([], sym (append-nil (whole_lines bs)))

-- the lines of whole ones within the limits are the first that are read of an input that begins
-- with them
pub read_begins : (bs more : List ℕ) → is_within bs ≡ true → rest_of bs ≡ []
    → (others : List (List ℕ)) × (lines_read (bs ++ more) ≡ lines_of bs ++ others)
read_begins bs more fits whole = step (is_within (bs ++ more))
  where
    front : take (length bs) (bs ++ more) ≡ bs
    front = take-append_seam bs more

    last : List (List ℕ)
    last = cond (length (rest_of (bs ++ more)) == 0) [] (rest_of (bs ++ more) ∷ [])

    step : (t : Bool) → (others : List (List ℕ))
        × (cond t (lines_of (bs ++ more)) (whole_lines (part_within (bs ++ more)))
        ≡ lines_of bs ++ others)
    step true =
        let all = whole_begins bs more in (
          all.0 ++ last,
          ap (λ (lines : List (List ℕ)). lines ++ last) all.1
              ∙ append_assoc (whole_lines bs) all.0 last
              ∙ ap (λ (lines : List (List ℕ)). lines ++ (all.0 ++ last)) (sym (all_whole bs whole)),
        )
    step false =
        let longest =
        longest_begins (length (bs ++ more)) (length bs) (bs ++ more)
        (omega (arith, length-append bs more)) (ap is_within front ∙ fits) in
        let all = whole_begins bs longest.0 in (
          all.0,
          ap whole_lines (longest.1 ∙ ap (λ (x : List ℕ). x ++ longest.0) front)
              ∙ all.1
              ∙ ap (λ (lines : List (List ℕ)). lines ++ all.0) (sym (all_whole bs whole)),
        )
