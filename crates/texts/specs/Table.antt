-- The table of commands: the constant of the code, and what is looked up in it (the project's own).
use Rattle.std.specs.Prelude.{ℕ, ◌+◌, ◌-◌, Bool, true, false, not, ◌&&◌, if◌then◌else◌, List, []}
use Rattle.std.specs.Prelude.{◌∷◌, map, find, bytes_eq, slice_get, Option, None, Some}
use Rattle.std.specs.{Borrow.Bor, List.list_any}
use denote.Enum.Bare.{sameb}
use Rattle.texts.specs.contracts.table.Tag.{the_type}
use Rattle.texts.specs.declared.table.{FieldKind.FieldKind, Tag.Tag, Row.Row, TheConstants.ROWS}
use Rattle.texts.specs.declared.table.FieldKind.TheVariants as kind

-- ---- the kinds of fields

-- it is all that is left of a text, spaces too
abbrev pub is_rest : FieldKind → Bool
is_rest kind.Name = true
is_rest kind.NewName = true
is_rest kind.Moves = true
is_rest kind.Outcome = true
is_rest kind.Now = true
is_rest _ = false

-- moves may be in it, as many as a text has room for
abbrev pub has_moves : FieldKind → Bool
has_moves kind.Moves = true
has_moves kind.Outcome = true
has_moves kind.Now = true
has_moves _ = false

-- memory is taken for it while it is read, so also where it is misspelt
abbrev pub is_kept : FieldKind → Bool
is_kept kind.Moves = true
is_kept kind.Outcome = true
is_kept kind.Was = true
is_kept kind.Now = true
is_kept _ = false

-- ---- the rows

abbrev pub TheRow : Type 0
TheRow = Row (List ℕ) (List FieldKind)

-- a row of the code, without its references
abbrev pub plain : Row (Bor (List ℕ)) (Bor (List FieldKind)) → TheRow
plain row =
    record {
      word = row.word.now;
      since = row.since;
      fields = row.fields.now;
      takes_remark = row.takes_remark;
      tag = row.tag;
    }

unfoldable pub rows : List TheRow
rows =
    map (λ row. record {
      word = row.word.now;
      since = row.since;
      fields = row.fields.now;
      takes_remark = row.takes_remark;
      tag = row.tag;
    }) ROWS

-- the row of a word, which is the first that has it
abbrev pub row_named : List ℕ → Option TheRow
row_named word = find (λ row. bytes_eq row.word word) rows

-- bytes are the word of a command
abbrev pub is_word : List ℕ → Bool
is_word bytes = list_any (λ row. bytes_eq row.word bytes) rows

abbrev pub same_tag : Tag → Tag → Bool
same_tag = sameb the_type

-- the row of a tag: each has one
abbrev pub row_of : Tag → Option TheRow
row_of tag = find (λ row. same_tag row.tag tag) rows

-- what is in it

abbrev pub word_in : Option TheRow → List ℕ
word_in None = []
word_in (Some row) = row.word

abbrev pub fields_in : Option TheRow → List FieldKind
fields_in None = []
fields_in (Some row) = row.fields

abbrev pub since_in : Option TheRow → ℕ
since_in None = 0
since_in (Some row) = row.since

abbrev pub takes_remark_in : Option TheRow → Bool
takes_remark_in None = false
takes_remark_in (Some row) = row.takes_remark

-- what the field with an index, counted from 1, is after a word; none after the last one
abbrev pub kind_at : List ℕ → ℕ → Option FieldKind
kind_at word index = slice_get (fields_in (row_named word)) (index - 1)

-- where the first field is that memory is taken for while it is read, counted from an index; 0
-- where none does
abbrev pub kept_at : ℕ → List FieldKind → ℕ
kept_at index [] = 0
kept_at index (k ∷ ks) = if is_kept k then index else kept_at (index + 1) ks

-- no field is after one that is all that is left
abbrev pub is_rest_last : List FieldKind → Bool
is_rest_last [] = true
is_rest_last (k ∷ []) = true
is_rest_last (k ∷ j ∷ ks) = not (is_rest k) && is_rest_last (j ∷ ks)
