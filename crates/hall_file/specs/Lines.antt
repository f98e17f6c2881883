-- The lines of a file, and the line on which a member begins (the project's own).
use Rattle.std.specs.Prelude.{◌≡◌, ◌≤◌, ◌<◌, ◌+◌, ◌-◌, ℕ, ◌==◌, ◌⊎◌, List, length, take}
use Rattle.std.specs.{Prelude.slice_index, Prelude.count_by, Prelude.Some, Prelude.None, Str.IsUtf8}
use Rattle.toml.specs.{Data.Members, Data.get_member, Parse.parse_document}

abbrev pub line_feed : ℕ
line_feed = 10

-- the number, from 1, of the line on which this byte is: a line ends with its line feed
abbrev pub line_at : List ℕ → ℕ → ℕ
line_at bytes place = 1 + count_by (λ b. b == line_feed) (take place bytes)

-- the text is UTF-8, and these are its members as a TOML document
pub record IsDocument (text : List ℕ) (ms : Members) : Type 0 where
  pub utf8 : IsUtf8 text
  pub value : parse_document text ≡ Some ms

-- the text is a document without this member
abbrev pub IsWithout : List ℕ → List ℕ → Type 0
IsWithout name text = (ms : Members) × IsDocument text ms × (get_member name ms ≡ None)

-- a line begins at this place
abbrev pub BeginsLine : List ℕ → ℕ → Type 0
BeginsLine bytes place = (place ≡ 0) ⊎ ((0 < place) × (slice_index bytes (place - 1) ≡ line_feed))

-- A member begins on the line after the longest run of whole lines from the beginning of the file
-- that is a document without it. Blank lines and comments in front of it belong to that run. Of a
-- member that a header or a dotted key makes it is the first line that does so.
pub record BeginsAt (bytes name : List ℕ) (place : ℕ) : Type 0 where
  pub within : place ≤ length bytes
  pub begins : BeginsLine bytes place
  pub before : IsWithout name (take place bytes)
  pub longest : (k : ℕ) → place < k → k ≤ length bytes → BeginsLine bytes k
      → IsWithout name (take k bytes) → ⊥

-- the member begins on the line with this number
abbrev pub IsLineOf : List ℕ → List ℕ → ℕ → Type 0
IsLineOf bytes name line = (place : ℕ) × BeginsAt bytes name place × (line ≡ line_at bytes place)
