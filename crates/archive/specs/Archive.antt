-- The archive of a log, a format of this project's own: the lines that `replay` reads in the log's
-- place.
use Rattle.std.specs.Prelude.{ℕ, ◌==◌, Bool, not, ◌&&◌, if◌then◌else◌, List, [], ◌∷◌, ◌++◌, drop}
use Rattle.std.specs.{Prelude.flat_map, List.list_any}
use Rattle.acceptor.specs.declared.entry.Entry.{Entry}
use Rattle.lines.specs.Lines.{is_line}

-- one of the entries has the id
abbrev pub has_id : List Entry → ℕ → Bool
has_id es id = list_any (λ e. e.id == id) es

-- behind these others, its id is new and its text has no line feed
abbrev pub is_copied : List Entry → Entry → Bool
is_copied before e = not (has_id before e.id) && is_line e.text

-- the line of an entry behind these others: its text, where it is copied, else empty
abbrev pub line_of : List Entry → Entry → List ℕ
line_of before e = if is_copied before e then e.text else []

-- a line for each entry, behind these others
abbrev pub lines_behind : List Entry → List Entry → List (List ℕ)
lines_behind before [] = []
lines_behind before (e ∷ es) = line_of before e ∷ lines_behind (before ++ e ∷ []) es

abbrev pub archive : List Entry → List (List ℕ)
archive log = lines_behind [] log

-- the lines as bytes, a line feed behind each
abbrev pub bytes_of : List (List ℕ) → List ℕ
bytes_of lines = flat_map (λ line. line ++ 10 ∷ []) lines

abbrev pub archive_text : List Entry → List ℕ
archive_text log = bytes_of (archive log)

-- the lines from a position on: those of the positions in front of it are left out
abbrev pub archive_from : ℕ → List Entry → List ℕ
archive_from from log = bytes_of (drop from (archive log))
