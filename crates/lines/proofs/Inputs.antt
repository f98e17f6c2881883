-- What was given of an input as the front of the whole, and what was written of a text as its
-- front.
use Rattle.std.proofs.Common.{◌≡◌, ℕ, Bool, true, false, cond, List, [], ◌∷◌, ◌++◌, length, subst}
use Rattle.std.proofs.Common.{unwrap_or, Option, None, Some, refl, sym, ap, ◌∙◌, append_assoc}
use Rattle.std.proofs.{Common.append-nil, KnownBytes.Appends-nil, KnownBytes.Appends-trans}
use Rattle.std.specs.Io.KnownBytes.{Appends, Consumes, IsAtEnd}
use Rattle.lines.{specs.Bytes.Writes, specs.Bytes.AppendsPart, proofs.More.read_begins}
use Rattle.lines.specs.{Bytes.HasLeft, Reading.Reading, Reading.HasGiven, Reading.IsAbove}
use Rattle.lines.specs.Lines.{whole_lines, rest_of, lines_of, is_within, part_within, lines_read}

-- what is left, where it is known
abbrev pub left_of : Option (List ℕ) → List ℕ
left_of left = unwrap_or left []

pub left_is : (a : Option (List ℕ)) → HasLeft a (left_of a)
left_is None = tt
left_is (Some xs) = refl

pub has_read : (a b : Option (List ℕ)) (bs : List ℕ) → Consumes a b bs → HasLeft a (bs ++ left_of b)
has_read None b bs h = tt
has_read (Some xs) None bs h = absurd h
has_read (Some xs) (Some ys) bs h = h

none_left : (b : Option (List ℕ)) → IsAtEnd b → left_of b ≡ []
none_left None h = refl
none_left (Some xs) h = h

-- at the end all is read
pub has_all : (p : Reading) (given : List ℕ) (start now : Option (List ℕ))
    → HasGiven p given start now → p.over ≡ true → HasLeft start given × IsAtEnd now
has_all p given start now h over =
    let end = h.ended over in
    let all : (given ++ p.held) ++ left_of now ≡ given =
    ap (λ x. (given ++ p.held) ++ x) (none_left now end.1)
    ∙ append-nil (given ++ p.held)
    ∙ ap (λ x. given ++ x) end.0
    ∙ append-nil given in
    (subst (HasLeft start) all (has_read start now (given ++ p.held) h.consumed), end.1)

-- the lines that were given are the first that are read of the input
pub given_of : (p : Reading) (given : List ℕ) (start now : Option (List ℕ))
    → HasGiven p given start now → (input : List ℕ) × HasLeft start input
    × ((others : List (List ℕ)) × (lines_read input ≡ lines_of given ++ others))
given_of p given start now h = step p.over refl
  where
    step : (t : Bool) → p.over ≡ t → (input : List ℕ) × HasLeft start input
        × ((others : List (List ℕ)) × (lines_read input ≡ lines_of given ++ others))
    step true over = (
      given,
      (has_all p given start now h over).0,
      ([], rw h.within (sym (append-nil (lines_of given)))),
    )
    step false going = (
      given ++ (p.held ++ left_of now),
      subst (HasLeft start) (append_assoc given p.held (left_of now))
          (has_read start now (given ++ p.held) h.consumed),
      read_begins given (p.held ++ left_of now) h.within (h.whole going),
    )

-- ---- what was written

-- more was written, and then a part of a text
pub part_after : (a b c : Option (List ℕ)) (text more : List ℕ) → Appends a b text
    → AppendsPart b c more → AppendsPart a c (text ++ more)
part_after a b c text more h part = (
  text ++ part.0,
  part.1,
  record {
    parts = ap (λ x. text ++ x) part.2.parts ∙ sym (append_assoc text part.0 part.1);
    written = Appends-trans a b c text part.0 h part.2.written;
  },
)

-- nothing was written
pub nothing_written : (a : Option (List ℕ)) (text : List ℕ) → AppendsPart a a text
nothing_written a text = ([], text, record { parts = refl; written = Appends-nil a })

-- all of a text was written, and more was to follow
pub whole_written : (a b : Option (List ℕ)) (text : List ℕ) → Appends a b text
    → AppendsPart a b text
whole_written a b text h = (text, [], record { parts = sym (append-nil text); written = h })

-- a part of the front is a part of the whole
pub part_front : (a b : Option (List ℕ)) (text more : List ℕ) → AppendsPart a b text
    → AppendsPart a b (text ++ more)
part_front a b text more part = (
  part.0,
  part.1 ++ more,
  record {
    parts = ap (λ x. x ++ more) part.2.parts ∙ append_assoc part.0 part.1 more;
    written = part.2.written;
  },
)

-- a part of what waited was written, where the text has grown by then
pub waits_more : (a b c : Option (List ℕ)) (text front waiting more rest : List ℕ)
    → text ≡ front ++ waiting → Appends a b front → Writes b c waiting more rest
    → Writes a c text (front ++ more) rest
waits_more a b c text front waiting more rest is first next = record {
  parts = is ∙ ap (λ x. front ++ x) next.parts ∙ sym (append_assoc front more rest);
  written = Appends-trans a b c front more first next.written;
}

-- all that waited was written
pub all_out : (a b c : Option (List ℕ)) (text front waiting : List ℕ)
    → Writes a b text front waiting → Appends b c waiting → Appends a c text
all_out a b c text front waiting first next =
    subst (Appends a c) (sym first.parts) (Appends-trans a b c front waiting first.written next)

-- a part of what waited was written, and no more
pub part_out : (a b c : Option (List ℕ)) (text front waiting : List ℕ)
    → Writes a b text front waiting → AppendsPart b c waiting → AppendsPart a c text
part_out a b c text front waiting first next =
    subst (AppendsPart a c) (sym first.parts) (part_after a b c front waiting first.written next)

-- what waits was not written yet
pub still_waits : (a b : Option (List ℕ)) (text front waiting : List ℕ)
    → Writes a b text front waiting → AppendsPart a b text
still_waits a b text front waiting w = (front, waiting, w)

-- ---- the end of an input

-- above the limits, the lines read are those that were given
pub lines_above : (given rest : List ℕ) (start now : Option (List ℕ)) → IsAbove given rest start now
    → (input : List ℕ) × HasLeft start input × (is_within input ≡ false)
    × (lines_read input ≡ lines_of given)
lines_above given rest start now h = (
  (given ++ rest) ++ left_of now,
  has_read start now (given ++ rest) h.consumed,
  h.above (left_of now),
  rw (h.above (left_of now)) (h.lines (left_of now)),
)
