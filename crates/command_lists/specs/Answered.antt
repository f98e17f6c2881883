-- What is answered to commands that are sent together (the project's own).
use Rattle.std.specs.Prelude.{ℕ, suc, Bool, true, false, codes, decimal, if◌then◌else◌, List, []}
use Rattle.std.specs.Prelude.{◌∷◌, ◌++◌, Option, None, Some, slice_get}
use Rattle.std.specs.Str.{is_utf8}
use Rattle.texts.specs.{meanings.Meanings.meaning_of, declared.Code.Code}
use Rattle.texts.specs.declared.answer.Answer.{Answer, TheVariants.Done, TheVariants.Refused}

-- a command is accepted
abbrev pub is_done : Answer → Bool
is_done Done = true
is_done (Refused code) = false

-- the first answer that is a refusal: its place, where the first answer has this one, and why
abbrev pub refused_from : ℕ → List Answer → Option (ℕ × Code)
refused_from place [] = None
refused_from place (Done ∷ answers) = refused_from (suc place) answers
refused_from place (Refused code ∷ answers) = Some (place, code)

-- a text, or a question mark for one that is not UTF-8
abbrev pub shown : List ℕ → List ℕ
shown text = if is_utf8 text then text else codes "?"

-- what is said of a command that is refused: its number, its text, and what the code means
abbrev pub refusal : ℕ → List ℕ → Code → List ℕ
refusal number text code =
    decimal number ++ codes ": " ++ shown text ++ codes ": " ++ meaning_of code

abbrev pub refusal_at : ℕ → Code → Option (List ℕ) → List ℕ
refusal_at place code None = []
refusal_at place code (Some text) = refusal (suc place) text code

abbrev pub refusal_of : List (List ℕ) → Option (ℕ × Code) → List ℕ
refusal_of texts None = []
refusal_of texts (Some (place, code)) = refusal_at place code (slice_get texts place)

-- what is said of the first command that is refused, counted from 1; nothing where none is
abbrev pub first_refusal : List (List ℕ) → List Answer → List ℕ
first_refusal texts answers = refusal_of texts (refused_from 0 answers)
