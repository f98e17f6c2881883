-- Commands that are sent together, from lines (the project's own).
use Rattle.std.specs.Prelude.{◌≡◌, ℕ, nat_le, if◌then◌else◌, List, [], ◌∷◌, ◌++◌, length}
use Rattle.std.specs.Prelude.{Option, None, Some}
use Rattle.lines.specs.command_file.Commands.{Numbered, commands_of}
use Rattle.lines.specs.Lines.{is_within}

-- the texts of commands after others; none where one has more than 600 bytes
abbrev pub shorts : List (List ℕ) → List Numbered → Option (List (List ℕ))
shorts texts [] = Some texts
shorts texts (command ∷ commands) =
    if nat_le (length command.text) 600 then shorts (texts ++ command.text ∷ []) commands else None

-- 1 to 16,384 texts
abbrev pub fit : Option (List (List ℕ)) → Option (List (List ℕ))
fit None = None
fit (Some []) = None
fit (Some (text ∷ texts)) =
    if nat_le (length (text ∷ texts)) 16384 then Some (text ∷ texts) else None

-- the commands of lines, where they are within the limits of an input, and there are 1 to 16,384 of
-- them, each of at most 600 bytes
abbrev pub texts_in : List ℕ → Option (List (List ℕ))
texts_in lines = if is_within lines then fit (shorts [] (commands_of lines)) else None

-- there are no such commands, or the lines are above the limits
abbrev pub AreUnfit : List ℕ → Type 0
AreUnfit lines = texts_in lines ≡ None

abbrev pub IsReadFrom : List ℕ → Option (List (List ℕ)) → Type 0
IsReadFrom lines None = AreUnfit lines
IsReadFrom lines (Some texts) = texts_in lines ≡ Some texts
