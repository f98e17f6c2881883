-- What a reader of lines has read of an input, and which lines it gave (the project's own).
use Rattle.std.specs.Prelude.{◌≡◌, ℕ, ◌+◌, Bool, true, false, nat_lt, ◌==◌, ◌&&◌, ◌||◌, List, []}
use Rattle.std.specs.Prelude.{◌∷◌, ◌++◌, length, Option, Result, Ok, Err}
use Rattle.std.specs.Io.KnownBytes.{Consumes, IsAtEnd}
use Rattle.lines.specs.Lines.{whole_lines, rest_of, lines_of, is_within, part_within, most_bytes}
use Rattle.lines.specs.{Lines.most_lines, Lines.most_in_line, declared.fault.RunFault.RunFault}
use Rattle.lines.specs.declared.fault.RunFault.TheVariants as fault

-- how many lines and bytes were given, what was read after them, and whether the input's end was
-- met
pub record Reading : Type 0 where
  pub lines : ℕ
  pub bytes : ℕ
  pub held : List ℕ
  pub over : Bool

abbrev pub nothing_read : Reading
nothing_read = record { lines = 0; bytes = 0; held = []; over = false }

-- after this many bytes and lines, and this many bytes of a line, one more byte is within the
-- limits
abbrev pub has_room : (bytes lines in_line : ℕ) → ℕ → Bool
has_room bytes lines in_line byte =
    nat_lt bytes most_bytes && nat_lt lines most_lines
    && (byte == 10 || nat_lt in_line most_in_line)

-- the lines of these bytes were given: they are within the limits, and the last one is whole, or
-- the input's end
pub record HasGiven (p : Reading) (given : List ℕ) (start now : Option (List ℕ)) : Type 0 where
  pub consumed : Consumes start now (given ++ p.held)
  pub bytes : p.bytes ≡ length given
  pub lines : p.lines ≡ length (lines_of given)
  pub within : is_within given ≡ true
  pub whole : p.over ≡ false → rest_of given ≡ []
  pub ended : p.over ≡ true → (p.held ≡ []) × IsAtEnd now

-- one more line was given
pub record GivesLine (p : Reading) (line given : List ℕ) (start now : Option (List ℕ)) : Type 0
  where
    pub more : List ℕ
    pub read : HasGiven p (given ++ more) start now
    pub is : lines_of (given ++ more) ≡ lines_of given ++ line ∷ []

-- no line is left
pub record GivesNone (p : Reading) (given : List ℕ) (start now : Option (List ℕ)) : Type 0 where
  pub read : HasGiven p given start now
  pub over : p.over ≡ true

-- one byte of the rest that was read is above the limits, whatever is after it, and no line in
-- front of it is left
pub record IsAbove (given rest : List ℕ) (start now : Option (List ℕ)) : Type 0 where
  pub consumed : Consumes start now (given ++ rest)
  pub above : (behind : List ℕ) → is_within ((given ++ rest) ++ behind) ≡ false
  pub lines : (behind : List ℕ)
      → whole_lines (part_within ((given ++ rest) ++ behind)) ≡ lines_of given

-- a read failed within a line
pub record IsBroken (given rest : List ℕ) (start now : Option (List ℕ)) : Type 0 where
  pub consumed : Consumes start now (given ++ rest)
  pub within : is_within (given ++ rest) ≡ true
  pub lines : whole_lines (given ++ rest) ≡ lines_of given

-- why no line was given
abbrev pub GivesFault : RunFault → (given : List ℕ) (start now : Option (List ℕ)) → Type 0
GivesFault fault.InputTooLong given start now = (rest : List ℕ) × IsAbove given rest start now
GivesFault fault.Read given start now = (rest : List ℕ) × IsBroken given rest start now
GivesFault fault.NoMemory given start now = (rest : List ℕ) × Consumes start now (given ++ rest)
GivesFault _ given start now = ⊥

-- what a call gives, and how it leaves the reader
abbrev pub Gives : Result Bool RunFault → Reading
    → (line given : List ℕ) (start now : Option (List ℕ)) → Type 0
Gives (Ok true) p line given start now = GivesLine p line given start now
Gives (Ok false) p line given start now = GivesNone p given start now
Gives (Err e) p line given start now = GivesFault e given start now

-- the same of every call: whatever was given before it, of what the reader then has left
abbrev pub ReadsLine : Reading → Reading → Result Bool RunFault
    → (line : List ℕ) (before after : Option (List ℕ)) → Type 0
ReadsLine p q result line before after =
    (given : List ℕ) (start : Option (List ℕ)) → HasGiven p given start before
    → Gives result q line given start after
