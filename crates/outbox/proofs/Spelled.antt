-- The lines of items and answers say just these.
use Rattle.std.proofs.Common.{◌≡◌, ℕ, ◌-◌, ◌^◌, ◌<◌, ◌≤◌, ◌==◌, ◌&&◌, not, Bool, true, false, List}
use Rattle.std.proofs.Common.{[], ◌∷◌, ◌++◌, All, length, codes, decimal, nat_le, Option, Some}
use Rattle.std.proofs.Common.{None, refl, sym, ap, ◌∙◌, arith, subst, cond}
use Rattle.std.specs.{Prelude.bytes_eq, Char.is_ascii_digit, List.list_all, Option.option_map}
use Rattle.std.proofs.lemmas.{Bool.Decides.nat_tests, Slice.Eq.bytes_eq-Decides}
use Rattle.std.proofs.lemmas.List.{Folds.list_all-append, Elements.All-cons, Elements.All-nil}
use Rattle.acceptor.specs.declared.entry.Entry.{Entry}
use Rattle.texts.specs.{Fields.cut, Fields.number_between, Numerals.digits_value, Numerals.within}
use Rattle.texts.proofs.Cuts.{and-true, behind, cut-behind, cut_spelled, lacks}
use Rattle.texts.proofs.FieldSpellings.{decimal_digits, decimal_no_space}
use Rattle.texts.proofs.Numerals.{number_between-decimal}
use Rattle.outbox.specs.{Items.is_line, Lines.said_after, Lines.said_by}
use Rattle.outbox.specs.Lines.{answered_line, id_of, answered_of, item_by, item_line, item_of, said}
use Rattle.outbox.proofs.Pieces.{IsNoEnd}
use Rattle.outbox.specs.declared.journal_lines.JournalLine.TheVariants as line

-- an entry that can be on a line
pub record IsFit (entry : Entry) : Type 0 where
  pub first : 1 ≤ entry.id
  pub last : entry.id < 2 ^ 63
  pub short : length entry.text ≤ 600
  pub line : is_line entry.text ≡ true

id_read : (id : ℕ) → 1 ≤ id → id < 2 ^ 63 → id_of (decimal id) ≡ Some id
id_read id first last = number_between-decimal 1 (2 ^ 63 - 1) id first (omega arith) (omega arith)

few : (n : ℕ) → n ≤ 600 → nat_le n 600 ≡ true
few n h = grind (arith, nat_tests)

-- the line of an entry is read as it
abbrev pub ReadsBack : Entry → Type 0
ReadsBack entry = said (item_line entry) ≡ Some (line.Item entry)

pub said_entry : (entry : Entry) → 1 ≤ entry.id → entry.id < 2 ^ 63 → length entry.text ≤ 600
    → ReadsBack entry
said_entry entry first last short =
    let rest : List ℕ = decimal entry.id ++ 32 ∷ entry.text in
    let word : cut 32 (item_line entry) ≡ (codes "item", Some rest) =
    cut-behind 32 (codes "item") (Some rest) refl in
    let small : entry.id < 10000000000000000000 = omega (arith, last) in
    let number : cut 32 rest ≡ (decimal entry.id, Some entry.text) =
    cut-behind 32 (decimal entry.id) (Some entry.text) (decimal_no_space entry.id small) in
    ap said_by word ∙ ap item_by number
    ∙ rw (id_read entry.id first last) (rw (few (length entry.text) short) refl)

pub said_item : (entry : Entry) → IsFit entry → ReadsBack entry
said_item entry fit = said_entry entry fit.first fit.last fit.short

pub said_answered : (id : ℕ) → 1 ≤ id → id < 2 ^ 63
    → said (answered_line id) ≡ Some (line.Answered id)
said_answered id first last =
    let word : cut 32 (answered_line id) ≡ (codes "answered", Some (decimal id)) =
    cut-behind 32 (codes "answered") (Some (decimal id)) refl in
    ap said_by word ∙ ap (option_map answered_of) (id_read id first last)

-- ---- no line has an end in it

lacks-append : (by : ℕ) (xs ys : List ℕ) → lacks by xs ≡ true → lacks by ys ≡ true
    → lacks by (xs ++ ys) ≡ true
lacks-append by xs ys front back =
    list_all-append (λ b. not (b == by)) xs ys ∙ rw (front, back) refl

digit_other : (b : ℕ) → is_ascii_digit b ≡ true → not (b == 10) ≡ true
digit_other b h = grind (arith, nat_tests)

digits_lack : (bytes : List ℕ) → list_all is_ascii_digit bytes ≡ true → lacks 10 bytes ≡ true
digits_lack [] h = refl
digits_lack (b ∷ bytes) h =
    let both = and-true (is_ascii_digit b) (list_all is_ascii_digit bytes) h in
    rw (digit_other b both.0, digits_lack bytes both.1) refl

decimal_lacks : (n : ℕ) → n < 2 ^ 63 → lacks 10 (decimal n) ≡ true
decimal_lacks n small = digits_lack (decimal n) (decimal_digits n (omega arith))

other_byte : (by b : ℕ) → not (b == by) ≡ true → (b == by) ≡ false
other_byte by b h = grind (arith, nat_tests)

pub all_other : (by : ℕ) (bytes : List ℕ) → lacks by bytes ≡ true
    → All (λ b. (b == by) ≡ false) bytes
all_other by [] h = All-nil (λ b. (b == by) ≡ false)
all_other by (b ∷ bytes) h =
    let both = and-true (not (b == by)) (lacks by bytes) h in
    All-cons (λ x. (x == by) ≡ false) b bytes (other_byte by b both.0) (all_other by bytes both.1)

pub item_no_end : (entry : Entry) → IsFit entry → All IsNoEnd (item_line entry)
item_no_end entry fit =
    all_other 10 (item_line entry)
    (lacks-append 10 (codes "item ") (decimal entry.id ++ 32 ∷ entry.text) refl
    (lacks-append 10 (decimal entry.id) (32 ∷ entry.text) (decimal_lacks entry.id fit.last)
    fit.line))

pub answered_no_end : (id : ℕ) → id < 2 ^ 63 → All IsNoEnd (answered_line id)
answered_no_end id last =
    all_other 10 (answered_line id)
    (lacks-append 10 (codes "answered ") (decimal id) refl (decimal_lacks id last))

-- ---- what says an item is its line

chosen : (b : Bool) (o : Option ℕ) (id : ℕ) → cond b o None ≡ Some id → (b ≡ true) × (o ≡ Some id)
chosen true o id h = (refl, h)
chosen false o id h = absurd cc

in_range : (low high n id : ℕ) → within low high n ≡ Some id → (n ≡ id) × (low ≤ id) × (id ≤ high)
in_range low high n id h = go (nat_le low n && nat_le n high) refl h
  where
    go : (b : Bool) → (nat_le low n && nat_le n high) ≡ b → cond b (Some n) None ≡ Some id
        → (n ≡ id) × (low ≤ id) × (id ≤ high)
    go true is e = let same : n ≡ id = cc in grind (arith, nat_tests)
    go false is e = absurd cc

-- a word that reads as an id is that number in decimal
id_spelled : (word : List ℕ) (id : ℕ) → id_of word ≡ Some id
    → (word ≡ decimal id) × (1 ≤ id) × (id ≤ 2 ^ 63 - 1)
unfolding number_between
id_spelled word id h =
    let c =
    chosen (bytes_eq word (decimal (digits_value word)))
    (within 1 (2 ^ 63 - 1) (digits_value word)) id h in
    let r = in_range 1 (2 ^ 63 - 1) (digits_value word) id c.1 in
    let same : word ≡ decimal (digits_value word) = (bytes_eq-Decides _ _).0 c.0 in (
      same ∙ ap decimal r.0,
      r.1,
      r.2,
    )

-- what reads as an item is its line, and the entry is one of a program
pub record IsSpelled (bytes : List ℕ) (entry : Entry) : Type 0 where
  pub is : bytes ≡ item_line entry
  pub first : 1 ≤ entry.id
  pub last : entry.id < 2 ^ 63
  pub short : length entry.text ≤ 600

short_of : (n : ℕ) → nat_le n 600 ≡ true → n ≤ 600
short_of n h = grind (arith, nat_tests)

-- after the first word
pub record IsSpelledAfter (rest : List ℕ) (entry : Entry) : Type 0 where
  pub is : rest ≡ decimal entry.id ++ 32 ∷ entry.text
  pub first : 1 ≤ entry.id
  pub last : entry.id < 2 ^ 63
  pub short : length entry.text ≤ 600

item_of_spelled : (word text : List ℕ) (o : Option ℕ) (entry : Entry) → id_of word ≡ o
    → item_of o text ≡ Some (line.Item entry) → IsSpelledAfter (word ++ 32 ∷ text) entry
item_of_spelled word text None entry is h = absurd cc
item_of_spelled word text (Some id) entry is h = go (nat_le (length text) 600) refl h
  where
    go : (b : Bool) → nat_le (length text) 600 ≡ b
        → cond b (Some (line.Item (record { id = id; text = text }))) None
        ≡ Some (line.Item entry) → IsSpelledAfter (word ++ 32 ∷ text) entry
    go true few e =
        let made : Entry = record { id = id; text = text } in
        let same : made ≡ entry = cc in
        let w = id_spelled word id is in
        subst (IsSpelledAfter (word ++ 32 ∷ text)) same (record {
          is = ap (λ x. x ++ 32 ∷ text) w.0;
          first = w.1;
          last = let l = w.2 in omega arith;
          short = short_of (length text) few;
        })
    go false few e = absurd cc

item_by_spelled : (rest : List ℕ) (parts : List ℕ × Option (List ℕ)) (entry : Entry)
    → rest ≡ parts.0 ++ behind 32 parts.1 → item_by parts ≡ Some (line.Item entry)
    → IsSpelledAfter rest entry
item_by_spelled rest (word, None) entry is h = absurd cc
item_by_spelled rest (word, Some text) entry is h =
    subst (λ (r : List ℕ). IsSpelledAfter r entry) (sym is)
    (item_of_spelled word text (id_of word) entry refl h)

not_answered : (o : Option ℕ) (entry : Entry)
    → option_map answered_of o ≡ Some (line.Item entry) → ⊥
not_answered None entry h = absurd cc
not_answered (Some id) entry h = absurd cc

said_after_spelled : (word rest : List ℕ) (entry : Entry)
    → said_after word rest ≡ Some (line.Item entry) → IsSpelled (word ++ 32 ∷ rest) entry
said_after_spelled word rest entry h = go (bytes_eq word (codes "item")) refl h
  where
    late : (b : Bool) → cond b (option_map answered_of (id_of rest)) None
        ≡ Some (line.Item entry) → ⊥
    late true e = not_answered (id_of rest) entry e
    late false e = absurd cc

    go : (b : Bool) → bytes_eq word (codes "item") ≡ b → cond b (item_by (cut 32 rest))
        (cond (bytes_eq word (codes "answered")) (option_map answered_of (id_of rest)) None)
        ≡ Some (line.Item entry) → IsSpelled (word ++ 32 ∷ rest) entry
    go true same e =
        let s = item_by_spelled rest (cut 32 rest) entry (cut_spelled 32 rest) e in
        let w : word ≡ codes "item" = (bytes_eq-Decides word (codes "item")).0 same in
        record {
          is = ap (λ x. x ++ 32 ∷ rest) w ∙ ap (λ x. codes "item" ++ 32 ∷ x) s.is;
          first = s.first;
          last = s.last;
          short = s.short;
        }
    go false same e = absurd (late (bytes_eq word (codes "answered")) e)

said_by_spelled : (bytes : List ℕ) (parts : List ℕ × Option (List ℕ)) (entry : Entry)
    → bytes ≡ parts.0 ++ behind 32 parts.1 → said_by parts ≡ Some (line.Item entry)
    → IsSpelled bytes entry
said_by_spelled bytes (word, None) entry is h = absurd cc
said_by_spelled bytes (word, Some rest) entry is h =
    subst (λ (b : List ℕ). IsSpelled b entry) (sym is) (said_after_spelled word rest entry h)

pub item_spelled : (bytes : List ℕ) (entry : Entry) → said bytes ≡ Some (line.Item entry)
    → IsSpelled bytes entry
item_spelled bytes entry h =
    said_by_spelled bytes (cut 32 bytes) entry (cut_spelled 32 bytes) h
