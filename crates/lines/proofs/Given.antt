-- From byte to byte within a line, and from line to line.
use Rattle.std.proofs.Common.{◌≡◌, ℕ, ◌+◌, ◌<◌, ◌∷◌, ◌++◌, None, Some, not, refl, sym, ap, ◌∙◌}
use Rattle.std.proofs.Common.{Bool, MatchOption, append_assoc, append-nil, length-append, true}
use Rattle.std.proofs.Common.{false, cond, ◌==◌, ◌&&◌, List, [], length, Option, subst, arith}
use Rattle.std.proofs.lemmas.Bool.{ltb-true, Decides.nat_tests}
use Rattle.std.proofs.KnownBytes.{Consumes-trans}
use Rattle.std.specs.Io.KnownBytes.{Consumes, Keeps}
use Rattle.lines.specs.{Lines.part_within}
use Rattle.lines.specs.Lines.{lines_and_rest, whole_lines, rest_of, lines_of, closed, is_within}
use Rattle.lines.specs.Reading.{Reading, has_room, HasGiven, GivesLine, IsAbove, IsBroken}
use Rattle.lines.specs.model.Stepping.{TakesHeld, TakesNone, Fills, TakesByte, MeetsEnd}
use Rattle.lines.proofs.More.{with_more, lines_more, room_behind, within_more, all_whole}
use Rattle.lines.proofs.More.{above_with_more, longest_in_front}

-- a line has begun after bytes whose lines were given
pub record Midway (p : Reading) (line given : List ℕ) (start now : Option (List ℕ)) : Type 0 where
  pub consumed : Consumes start now ((given ++ line) ++ p.held)
  pub bytes : p.bytes ≡ length (given ++ line)
  pub lines : p.lines ≡ length (lines_of given)
  pub within : is_within (given ++ line) ≡ true
  pub first : lines_of given ≡ whole_lines given
  pub whole : whole_lines (given ++ line) ≡ whole_lines given
  pub rest : rest_of (given ++ line) ≡ line
  pub going : p.over ≡ false

-- with more read, the bytes that were read and not given are more
consumed_more : (a b c : Option (List ℕ)) (xs held piece ys : List ℕ) → Consumes a b (xs ++ held)
    → Consumes b c piece → held ++ piece ≡ ys → Consumes a c (xs ++ ys)
consumed_more a b c xs held piece ys first more is =
    subst (Consumes a c) (append_assoc xs held piece ∙ ap (λ x. xs ++ x) is)
    (Consumes-trans a b c (xs ++ held) piece first more)

pub begins : (p : Reading) (given : List ℕ) (start now : Option (List ℕ)) → p.over ≡ false
    → HasGiven p given start now → Midway p [] given start now
begins p given start now going h = record {
  consumed = subst (λ x. Consumes start now (x ++ p.held)) (sym (append-nil given)) h.consumed;
  bytes = h.bytes ∙ ap length (sym (append-nil given));
  lines = h.lines;
  within = ap is_within (append-nil given) ∙ h.within;
  first = all_whole given (h.whole going);
  whole = ap whole_lines (append-nil given);
  rest = ap rest_of (append-nil given) ∙ h.whole going;
  going = going;
}

-- the room after a line that has begun, by the counts of the reader
room_is : (p : Reading) (line given : List ℕ) (start now : Option (List ℕ)) (b : ℕ)
    → Midway p line given start now
    → room_behind (given ++ line) b ≡ has_room p.bytes p.lines (length line) b
room_is p line given start now b m = rw (m.whole, m.rest, ← m.bytes, ← m.first, ← m.lines) refl

within_with : (p : Reading) (line given : List ℕ) (start now : Option (List ℕ)) (b : ℕ)
    → Midway p line given start now
    → is_within ((given ++ line) ++ b ∷ []) ≡ has_room p.bytes p.lines (length line) b
within_with p line given start now b m =
    within_more (given ++ line) b ∙ ap (λ t. t && room_behind (given ++ line) b) m.within
    ∙ room_is p line given start now b m

-- one more byte of the line
pub goes_on : (p q : Reading) (line given : List ℕ) (b : ℕ) (start before now : Option (List ℕ))
    → Midway p line given start before → TakesByte p q b before now
    → has_room q.bytes q.lines (length line) b ≡ true → (b == 10) ≡ false
    → Midway (record q { bytes = q.bytes + 1 }) (line ++ b ∷ []) given start now
goes_on p q line given b start before now m t room feed =
    let same : (given ++ line) ++ b ∷ [] ≡ given ++ (line ++ b ∷ []) =
    append_assoc given line (b ∷ []) in
    let more = lines_more (given ++ line) b
    ∙ ap (λ s. with_more s (lines_and_rest (given ++ line)) b) feed in
    let counts : has_room p.bytes p.lines (length line) b
    ≡ has_room q.bytes q.lines (length line) b =
    ap (λ (r : Reading). has_room r.bytes r.lines (length line) b) (sym t.same) in
    record {
      consumed =
          subst (λ x. Consumes start now x)
          (sym (append_assoc (given ++ line) (b ∷ []) q.held) ∙ ap (λ x. x ++ q.held) same)
          (consumed_more start before now (given ++ line) p.held t.piece (b ∷ q.held) m.consumed
          t.consumed t.bytes);
      bytes =
          ap (λ (r : Reading). r.bytes + 1) t.same ∙ ap (λ n. n + 1) m.bytes
          ∙ sym (length-append (given ++ line) (b ∷ [])) ∙ ap length same;
      lines = ap (λ (r : Reading). r.lines) t.same ∙ m.lines;
      within = ap is_within (sym same) ∙ within_with p line given start before b m ∙ counts ∙ room;
      first = m.first;
      whole = ap whole_lines (sym same) ∙ ap (λ (x : List (List ℕ) × List ℕ). x.0) more ∙ m.whole;
      rest =
          ap rest_of (sym same) ∙ ap (λ (x : List (List ℕ) × List ℕ). x.1) more
          ∙ ap (λ x. x ++ b ∷ []) m.rest;
      going = ap (λ (r : Reading). r.over) t.same ∙ m.going;
    }

-- a line feed ends the line
pub ends_line : (p q : Reading) (line given : List ℕ) (b : ℕ) (start before now : Option (List ℕ))
    → Midway p line given start before → TakesByte p q b before now
    → has_room q.bytes q.lines (length line) b ≡ true → (b == 10) ≡ true
    → GivesLine (record q { bytes = q.bytes + 1; lines = q.lines + 1 }) line given start now
ends_line p q line given b start before now m t room feed =
    let same : (given ++ line) ++ b ∷ [] ≡ given ++ (line ++ b ∷ []) =
    append_assoc given line (b ∷ []) in
    let more = lines_more (given ++ line) b
    ∙ ap (λ s. with_more s (lines_and_rest (given ++ line)) b) feed in
    let counts : has_room p.bytes p.lines (length line) b
    ≡ has_room q.bytes q.lines (length line) b =
    ap (λ (r : Reading). has_room r.bytes r.lines (length line) b) (sym t.same) in
    let rest : rest_of (given ++ (line ++ b ∷ [])) ≡ [] = ap rest_of (sym same)
    ∙ ap (λ (x : List (List ℕ) × List ℕ). x.1) more in
    let all : lines_of (given ++ (line ++ b ∷ [])) ≡ lines_of given ++ line ∷ [] =
    all_whole (given ++ (line ++ b ∷ [])) rest
    ∙ ap whole_lines (sym same)
    ∙ ap (λ (x : List (List ℕ) × List ℕ). x.0) more
    ∙ ap (λ (x : List (List ℕ)). x ++ rest_of (given ++ line) ∷ []) m.whole
    ∙ ap (λ (x : List ℕ). whole_lines given ++ x ∷ []) m.rest
    ∙ ap (λ (x : List (List ℕ)). x ++ line ∷ []) (sym m.first) in
    record {
      more = line ++ b ∷ [];
      read = record {
        consumed =
            subst (λ x. Consumes start now x)
            (sym (append_assoc (given ++ line) (b ∷ []) q.held) ∙ ap (λ x. x ++ q.held) same)
            (consumed_more start before now (given ++ line) p.held t.piece (b ∷ q.held) m.consumed
            t.consumed t.bytes);
        bytes =
            ap (λ (r : Reading). r.bytes + 1) t.same ∙ ap (λ n. n + 1) m.bytes
            ∙ sym (length-append (given ++ line) (b ∷ [])) ∙ ap length same;
        lines =
            ap (λ (r : Reading). r.lines + 1) t.same ∙ ap (λ n. n + 1) m.lines
            ∙ sym (length-append (lines_of given) (line ∷ [])) ∙ ap length (sym all);
        within =
            ap is_within (sym same) ∙ within_with p line given start before b m ∙ counts ∙ room;
        whole = λ _. rest;
        ended =
            λ over. absurd (no (sym m.going ∙ ap (λ (r : Reading). r.over) (sym t.same) ∙ over));
      };
      is = all;
    }
  where
    no : false ≡ true → ⊥
    no e = cc

-- a byte is above the limits
pub is_above : (p q : Reading) (line given : List ℕ) (b : ℕ) (start before now : Option (List ℕ))
    → Midway p line given start before → TakesByte p q b before now
    → has_room q.bytes q.lines (length line) b ≡ false
    → IsAbove given (line ++ b ∷ q.held) start now
is_above p q line given b start before now m t room =
    let counts : has_room p.bytes p.lines (length line) b
    ≡ has_room q.bytes q.lines (length line) b =
    ap (λ (r : Reading). has_room r.bytes r.lines (length line) b) (sym t.same) in
    let over : is_within ((given ++ line) ++ b ∷ []) ≡ false =
    within_with p line given start before b m
    ∙ counts ∙ room in
    let parted : (behind : List ℕ)
    → (given ++ (line ++ b ∷ q.held)) ++ behind ≡ (given ++ line) ++ b ∷ (q.held ++ behind) =
    λ behind. ap (λ x. x ++ behind) (sym (append_assoc given line (b ∷ q.held)))
    ∙ append_assoc (given ++ line) (b ∷ q.held) behind in
    record {
      consumed =
          subst (λ x. Consumes start now x) (append_assoc given line (b ∷ q.held))
          (consumed_more start before now (given ++ line) p.held t.piece (b ∷ q.held) m.consumed
          t.consumed t.bytes);
      above =
          λ behind.
          ap is_within
          (parted behind ∙ sym (append_assoc (given ++ line) (b ∷ []) (q.held ++ behind)))
          ∙ above_with_more ((given ++ line) ++ b ∷ []) (q.held ++ behind) over;
      lines = λ behind.
          ap (λ x. whole_lines (part_within x)) (parted behind)
          ∙ ap whole_lines (longest_in_front (given ++ line) b (q.held ++ behind) m.within over)
          ∙ m.whole
          ∙ sym m.first;
    }

-- a read failed
pub is_broken : (p : Reading) (line given : List ℕ) (start before now : Option (List ℕ))
    → Midway p line given start before → p.held ≡ [] → Keeps before now
    → IsBroken given line start now
is_broken p line given start before now m none kept = record {
  consumed =
      subst (Consumes start now) (append-nil (given ++ line))
      (consumed_more start before now (given ++ line) p.held [] [] m.consumed
      (stays before now kept) (append-nil p.held ∙ none));
  within = m.within;
  lines = m.whole ∙ sym m.first;
}
  where
    stays : (a b : Option (List ℕ)) → Keeps a b → Consumes a b []
    stays None b h = tt
    stays (Some xs) None h = absurd h
    stays (Some xs) (Some ys) h = sym h

-- the input ends within a line
pub ends_within : (p q : Reading) (line given : List ℕ) (start before now : Option (List ℕ))
    → Midway p line given start before → MeetsEnd p q before now → (length line == 0) ≡ false
    → GivesLine (record q { lines = q.lines + 1 }) line given start now
ends_within p q line given start before now m e some =
    let held : q.held ≡ [] = ap (λ (r : Reading). r.held) e.same ∙ e.none in
    let rest : closed (lines_and_rest (given ++ line)) ≡ whole_lines given ++ line ∷ [] =
    ap (λ (x : List (List ℕ)). closed (x, rest_of (given ++ line))) m.whole
    ∙ ap (λ (x : List ℕ). closed (whole_lines given, x)) m.rest
    ∙ ap (λ t. whole_lines given ++ cond t [] (line ∷ [])) some in
    let all : lines_of (given ++ line) ≡ lines_of given ++ line ∷ [] = rest
    ∙ ap (λ (x : List (List ℕ)). x ++ line ∷ []) (sym m.first) in
    record {
      more = line;
      read = record {
        consumed =
            subst (λ x. Consumes start now ((given ++ line) ++ x)) (sym held)
            (consumed_more start before now (given ++ line) p.held [] [] m.consumed e.consumed
            (append-nil p.held ∙ e.none));
        bytes = ap (λ (r : Reading). r.bytes) e.same ∙ m.bytes;
        lines =
            ap (λ (r : Reading). r.lines + 1) e.same ∙ ap (λ n. n + 1) m.lines
            ∙ sym (length-append (lines_of given) (line ∷ [])) ∙ ap length (sym all);
        within = m.within;
        whole = λ going. absurd (no (sym (ap (λ (r : Reading). r.over) e.same) ∙ going));
        ended = λ _. (held, e.end);
      };
      is = all;
    }
  where
    no : true ≡ false → ⊥
    no e = cc

-- ---- bytes

-- a byte of a piece that was read now
pub fills : (p p' q r : Reading) (some : Bool) (byte : Option ℕ) (before now : Option (List ℕ))
    → p.over ≡ false → TakesNone p p' → Fills p' q some before now → some ≡ true
    → MatchOption byte (TakesNone q r) (λ b. TakesHeld q r b)
    → MatchOption byte (MeetsEnd p r before now) (λ b. TakesByte p r b before now)
fills p p' q r some None before now going none f is t =
    let bad : 0 < length q.held = ltb-true 0 (length q.held) (sym f.is ∙ is) in
    absurd (omega (arith, bad, ap length t.none))
fills p p' q r some (Some b) before now going none f is t = record {
  piece = q.held;
  consumed = f.consumed;
  bytes = ap (λ x. x ++ q.held) none.none ∙ t.bytes;
  same =
      t.same
      ∙ ap (λ (s : Reading). record s { held = r.held }) f.same
      ∙ ap (λ (x : Bool). record p' { held = r.held; over = not x }) is
      ∙ ap (λ (s : Reading). record s { held = r.held; over = false }) none.same
      ∙ ap (λ (x : Bool). record p { held = r.held; over = x }) (sym going);
}

pub byte_is : (p q : Reading) (o : Option ℕ) (b : ℕ) (before now : Option (List ℕ)) → o ≡ Some b
    → MatchOption o (MeetsEnd p q before now) (λ b. TakesByte p q b before now)
    → TakesByte p q b before now
byte_is p q o b before now is t =
    subst
    (λ (x : Option ℕ). MatchOption x (MeetsEnd p q before now) (λ b. TakesByte p q b before now)) is
    t

pub room_lines : (bytes lines in_line byte : ℕ) → has_room bytes lines in_line byte ≡ true
    → lines < 65536
room_lines bytes lines in_line byte h = grind (arith, nat_tests)

-- memory ran out within a line
pub starves : (p q : Reading) (line given : List ℕ) (b : ℕ) (start before now : Option (List ℕ))
    → Midway p line given start before → TakesByte p q b before now
    → (rest : List ℕ) × Consumes start now (given ++ rest)
starves p q line given b start before now m t = (
  line ++ b ∷ q.held,
  subst (λ x. Consumes start now x) (append_assoc given line (b ∷ q.held))
      (consumed_more start before now (given ++ line) p.held t.piece (b ∷ q.held) m.consumed
      t.consumed
      t.bytes),
)
