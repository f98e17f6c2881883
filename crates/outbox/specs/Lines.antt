-- The lines of a journal (the project's own). The first names the hall; each further one is an
-- item, or says that a scoretaker has answered one.
use Rattle.std.specs.Prelude.{◌≡◌, ◌==◌, ℕ, ◌-◌, ◌^◌, ◌<◌, if◌then◌else◌, List, [], ◌∷◌, ◌++◌}
use Rattle.std.specs.Prelude.{bytes_eq, codes, decimal, length, nat_le, Option, None, Some}
use Rattle.std.specs.{List.flat_map, List.slice_split, Option.option_map}
use Rattle.acceptor.specs.declared.entry.Entry.{Entry}
use Rattle.texts.specs.Fields.{cut, number_between}
use Rattle.outbox.specs.declared.journal_lines.JournalLine.{JournalLine}
use Rattle.outbox.specs.declared.journal_lines.JournalLine.TheVariants as line

-- ---- what is written

abbrev pub with_end : List ℕ → List ℕ
with_end line = line ++ 10 ∷ []

-- `item`, the id and the text, with a space between each two: nothing of the text is changed
abbrev pub item_line : Entry → List ℕ
item_line entry = codes "item" ++ 32 ∷ (decimal entry.id ++ 32 ∷ entry.text)

abbrev pub answered_line : ℕ → List ℕ
answered_line id = codes "answered" ++ 32 ∷ decimal id

-- a hall: its number, and the addresses of its desks
pub record HallOf : Type 0 where
  pub number : ℕ
  pub addresses : List (List ℕ)

-- the first line: `hall`, its number and the addresses of its desks
abbrev pub hall_line : HallOf → List ℕ
hall_line hall =
    codes "hall" ++ 32 ∷ (decimal hall.number ++ flat_map (λ address. 32 ∷ address) hall.addresses)

-- ---- what is said

abbrev pub id_of : List ℕ → Option ℕ
id_of word = number_between 1 (2 ^ 63 - 1) word

abbrev pub item_of : Option ℕ → List ℕ → Option JournalLine
item_of None text = None
item_of (Some id) text =
    if nat_le (length text) 600 then Some (line.Item (record { id = id; text = text })) else None

abbrev pub item_by : List ℕ × Option (List ℕ) → Option JournalLine
item_by (word, None) = None
item_by (word, Some text) = item_of (id_of word) text

abbrev pub answered_of : ℕ → JournalLine
answered_of id = line.Answered id

abbrev pub said_after : List ℕ → List ℕ → Option JournalLine
said_after word rest =
    if bytes_eq word (codes "item") then item_by (cut 32 rest)
    else if bytes_eq word (codes "answered") then option_map answered_of (id_of rest)
    else None

abbrev pub said_by : List ℕ × Option (List ℕ) → Option JournalLine
said_by (word, None) = None
said_by (word, Some rest) = said_after word rest

-- what a line says, without its end
abbrev pub said : List ℕ → Option JournalLine
said line = said_by (cut 32 line)

-- ---- the lines of a file

-- the parts of bytes between the ends of lines: one more than there are of those
abbrev pub parts : List ℕ → List (List ℕ)
parts bytes = slice_split (λ b. b == 10) bytes

abbrev pub all_but_last : {A : Type 0} → List A → List A
all_but_last [] = []
all_but_last (x ∷ []) = []
all_but_last (x ∷ y ∷ others) = x ∷ all_but_last (y ∷ others)

abbrev pub last_of : List (List ℕ) → List ℕ
last_of [] = []
last_of (x ∷ []) = x
last_of (x ∷ y ∷ others) = last_of (y ∷ others)

-- the lines that were written to their ends, without those
abbrev pub whole_lines : List ℕ → List (List ℕ)
whole_lines bytes = all_but_last (parts bytes)

-- what is after the last line's end: a line that was not written to its end, or nothing
abbrev pub cut_line : List ℕ → List ℕ
cut_line bytes = last_of (parts bytes)

-- the bytes in front of the first line's end, and those after it
abbrev pub IsFirstLine : List ℕ → Option (List ℕ × List ℕ) → Type 0
IsFirstLine bytes None = parts bytes ≡ bytes ∷ []
IsFirstLine bytes (Some r) =
    (parts bytes ≡ r.0 ∷ parts r.1) × (length r.1 < length bytes)
