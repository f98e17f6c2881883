-- Where an id is first, and the line that is written for a position.
use Rattle.std.specs.Prelude.{◌≡◌, ℕ, ◌==◌, Bool, false, Option, None, Some, List, [], ◌∷◌, ◌++◌}
use Rattle.std.specs.Prelude.{nat_le, if◌then◌else◌, slice_get, take}
use Rattle.acceptor.specs.declared.entry.Entry.{Entry}
use Rattle.archive.specs.Archive.{line_of}

-- the place that was found is this one
abbrev pub is_at : ℕ → Option ℕ → Bool
is_at pos None = false
is_at pos (Some first) = first == pos

-- where the log has this entry at the position, its line and a line feed were put behind the text
abbrev pub AddsLine : List Entry → ℕ → Entry → (old new : List ℕ) → Type 0
AddsLine log pos entry old new =
    slice_get log pos ≡ Some entry → new ≡ old ++ (line_of (take pos log) entry ++ 10 ∷ [])

-- the line and its line feed, from a position on, and nothing in front of that
abbrev pub piece_from : ℕ → List Entry → ℕ → Entry → List ℕ
piece_from from log pos entry =
    if nat_le from pos then line_of (take pos log) entry ++ 10 ∷ [] else []

-- so it is put after the text
abbrev pub AddsFrom : ℕ → List Entry → ℕ → Entry → (old new : List ℕ) → Type 0
AddsFrom from log pos entry old new =
    slice_get log pos ≡ Some entry → new ≡ old ++ piece_from from log pos entry
