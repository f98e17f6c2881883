-- What is in the log (the project's own).
use Rattle.std.specs.Prelude.{ℕ, ◌≤◌, ◌<◌, ◌^◌, Bool, ◌&&◌, ◌==◌, List, length}
use Rattle.std.specs.Str.{bytes_eq}

-- an entry, as clauses see it
pub record EntryValue : Type 0 where
  pub id : ℕ
  pub text : List ℕ

abbrev pub IsId : ℕ → Type 0
IsId id = (1 ≤ id) × (id < 2 ^ 63)

abbrev pub IsText : List ℕ → Type 0
IsText text = length text ≤ 600

-- two entries are equal in id and text
abbrev pub is_same_entry : EntryValue → EntryValue → Bool
is_same_entry a b = (a.id == b.id) && bytes_eq a.text b.text
