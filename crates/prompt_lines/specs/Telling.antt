-- What is written of a line that is written at once or not at all (the project's own).
use Rattle.std.specs.Prelude.{◌≡◌, ◌⊎◌, ◌++◌, ◌+◌, ◌-◌, ◌^◌, ℕ, List, Option, Bool, true, min}
use Rattle.std.specs.Prelude.{◌==◌, if◌then◌else◌, codes, decimal}
use Rattle.std.specs.Io.KnownBytes.{Appends}
use Rattle.lines.specs.Bytes.{AppendsPart}

-- how a line ends after this many in a row that could not be written
abbrev pub ending_of : ℕ → List ℕ
ending_of missed =
    if missed == 0 then codes "\n" else (
    if missed == 1 then codes " (1 line before this one could not be written)\n"
    else codes " (" ++ decimal missed ++ codes " lines before this one could not be written)\n"
    )

abbrev pub whole_line : List ℕ → ℕ → List ℕ
whole_line line missed = line ++ ending_of missed

-- one more could not be written
abbrev pub one_more : ℕ → ℕ
one_more missed = min (missed + 1) (2 ^ 64 - 1)

-- The line was written, where the writer took bytes, and from there on the count begins anew; or at
-- most a part of it was, and it counts.
abbrev pub IsTold : (takes : Bool) → (old new : Option (List ℕ)) → (whole : List ℕ)
    → (missed now_missed : ℕ) → Type 0
IsTold takes old new whole missed now_missed =
    ((takes ≡ true) × Appends old new whole × (now_missed ≡ 0))
    ⊎ (AppendsPart old new whole × (now_missed ≡ one_more missed))
