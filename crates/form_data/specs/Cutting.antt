-- Where a mark is in bytes (the project's own).
use Rattle.std.specs.Prelude.{ℕ, ◌==◌, ◌&&◌, ◌||◌, nat_eq, Bool, true, false, if◌then◌else◌, length}
use Rattle.std.specs.Prelude.{List, [], ◌∷◌, drop, Option, None, Some, option_map}
use Rattle.std.specs.{List.starts_with, Char.to_ascii_lowercase}

-- the end of a line: CR and LF
abbrev pub crlf : List ℕ
crlf = 13 ∷ 10 ∷ []

-- what is before the first place of a mark and after it
abbrev pub cut : List ℕ → List ℕ → Option (List ℕ × List ℕ)
cut mark [] = None
cut mark (b ∷ bytes) =
    if starts_with nat_eq (b ∷ bytes) mark then Some ([], drop (length mark) (b ∷ bytes))
    else option_map (λ parts. (b ∷ parts.0, parts.1)) (cut mark bytes)

-- the bytes before a cut, or all where there is none
abbrev pub before_cut : List ℕ → Option (List ℕ × List ℕ) → List ℕ
before_cut bytes None = bytes
before_cut bytes (Some parts) = parts.0

-- the bytes up to the next end of a line
abbrev pub line_of : List ℕ → List ℕ
line_of bytes = before_cut bytes (cut crlf bytes)

-- linear white space: a space or a tab (RFC 822, section 3.3)
abbrev pub is_blank : ℕ → Bool
is_blank b = b == 32 || b == 9

abbrev pub without_blanks : List ℕ → List ℕ
without_blanks [] = []
without_blanks (b ∷ bytes) = if is_blank b then without_blanks bytes else b ∷ bytes

-- bytes begin with a word in lower case, whatever the case of their letters
abbrev pub begins_as : List ℕ → List ℕ → Bool
begins_as [] bytes = true
begins_as (c ∷ word) [] = false
begins_as (c ∷ word) (b ∷ bytes) = to_ascii_lowercase b == c && begins_as word bytes

-- what is after a word in lower case, and after the blanks before it
abbrev pub after_word : List ℕ → List ℕ → Option (List ℕ)
after_word word bytes =
    if begins_as word (without_blanks bytes)
    then Some (drop (length word) (without_blanks bytes)) else None
