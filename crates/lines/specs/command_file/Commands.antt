-- The commands of an input: its lines, but for those that are empty and those that are comments
-- (the project's own).
use Rattle.std.specs.Prelude.{◌≡◌, ℕ, ◌+◌, ◌-◌, Bool, ◌==◌, true, if◌then◌else◌, List, [], ◌∷◌}
use Rattle.std.specs.Prelude.{◌++◌, length, take, drop, Option, nat_eq}
use Rattle.std.specs.List.{starts_with, ends_with}
use Rattle.std.specs.Io.KnownBytes.{Consumes, IsAtEnd}
use Rattle.lines.specs.Lines.{lines_of, is_within}
use Rattle.lines.specs.{Reading.GivesFault, declared.fault.RunFault.RunFault}

-- a command of an input, as clauses see it: the number of its line, from 1 on, and its text
pub record Numbered : Type 0 where
  pub number : ℕ
  pub text : List ℕ

abbrev pub numbered : ℕ → List ℕ → Numbered
numbered number text = record { number = number; text = text }

-- the byte-order mark in UTF-8, which some programs write in front of a text
abbrev pub mark : List ℕ
mark = 239 ∷ 187 ∷ 191 ∷ []

abbrev pub unmarked : List ℕ → List ℕ
unmarked line = if starts_with nat_eq line mark then drop 3 line else line

-- a carriage return at the end is dropped
abbrev pub unreturned : List ℕ → List ℕ
unreturned line = if ends_with nat_eq line (13 ∷ []) then take (length line - 1) line else line

-- what a line says: the mark is dropped at the front of the first one, and at the end of each a
-- carriage return
abbrev pub text_of : ℕ → List ℕ → List ℕ
text_of number line = unreturned (if number == 1 then unmarked line else line)

-- nothing is said, or it is a comment, which begins with `#`
abbrev pub is_left_out : List ℕ → Bool
is_left_out [] = true
is_left_out (b ∷ bs) = b == 35

abbrev pub command_in : ℕ → List ℕ → List Numbered
command_in number text = if is_left_out text then [] else numbered number text ∷ []

-- the commands of lines, of which the first has this number, and each further one the next
abbrev pub commands_from : ℕ → List (List ℕ) → List Numbered
commands_from number [] = []
commands_from number (line ∷ lines) =
    command_in number (text_of number line) ++ commands_from (number + 1) lines

abbrev pub commands_of : List ℕ → List Numbered
commands_of input = commands_from 1 (lines_of input)

-- the input was read to its end, within the limits, and these are its commands
pub record ReadsCommands (commands : List Numbered) (had left : Option (List ℕ)) : Type 0 where
  pub input : List ℕ
  pub read : Consumes had left input
  pub ended : IsAtEnd left
  pub within : is_within input ≡ true
  pub are : commands ≡ commands_of input

-- after some lines no further one could be read, for this reason
abbrev pub StopsReading : RunFault → (had left : Option (List ℕ)) → Type 0
StopsReading f had left = (given : List ℕ) × GivesFault f given had left
