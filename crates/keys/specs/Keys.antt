-- A key's file: hexadecimal digits, and at most one line feed after them (the project's own).
use Rattle.std.specs.Prelude.{◌≡◌, ℕ, ◌-◌, ◌==◌, if◌then◌else◌, List, [], ◌∷◌, ◌++◌, length, take}
use Rattle.std.specs.Prelude.{slice_index, Ok}
use Rattle.hex.specs.Hex.{decode_of}

-- the text without a line feed at its end
abbrev pub digits_of : List ℕ → List ℕ
digits_of text =
    if slice_index text (length text - 1) == 10 then take (length text - 1) text else text

-- the text with a line feed after it, as a file has it, spells this key
abbrev pub ReadsBack : List ℕ → List ℕ → Type 0
ReadsBack key text = decode_of (digits_of (text ++ 10 ∷ [])) ≡ Ok key
