-- What is wrong with a line that is no command, in words (the project's own).
use Rattle.std.specs.Prelude.{ℕ, ◌-◌, Bool, false, ◌==◌, ◌&&◌, ◌||◌, nat_lt, nat_le, not, zero, suc}
use Rattle.std.specs.Prelude.{if◌then◌else◌, List, [], ◌∷◌, ◌++◌, length, take, drop, map, codes}
use Rattle.std.specs.Prelude.{decimal, slice_index, Option, None, Some, option_map, Result, Ok, Err}
use Rattle.std.specs.{Prelude.bytes_eq, List.list_any, List.slice_split, Option.option_and_then}
use Rattle.texts.specs.Fields.{cut, cut_remark}
use Rattle.texts.specs.{Reading.command_of, declared.reading.CommandFault.CommandFault}
use Rattle.texts.specs.declared.{command.RemarkedCommand.RemarkedCommand, table.FieldKind.FieldKind}
use Rattle.lines.specs.command_file.Commands.{Numbered}
use Rattle.texts.specs.Table.{is_rest, kind_at, row_named, takes_remark_in}
use Rattle.lines.specs.command_file.FieldWords.{field_form, field_name, is_now, verb}
use Rattle.texts.specs.declared.reading.CommandFault.TheVariants as fault
use Rattle.texts.specs.declared.table.FieldKind.TheVariants as kind

-- ---- what is shown of a text

-- a control character is shown as a question mark
abbrev pub shown_byte : ℕ → ℕ
shown_byte b = if nat_lt b 32 || b == 127 then 63 else b

-- it is not the first byte of a character in UTF-8
abbrev pub is_within_char : ℕ → Bool
is_within_char b = nat_le 128 b && nat_lt b 192

-- 40 bytes of a long text are shown, or up to 3 fewer where a character would be cut
abbrev pub border_of : List ℕ → ℕ
border_of text =
    if not (is_within_char (slice_index text 40)) then 40
    else if not (is_within_char (slice_index text 39)) then 39
    else if not (is_within_char (slice_index text 38)) then 38
    else 37

abbrev pub shown : List ℕ → List ℕ
shown text =
    if nat_le (length text) 40 then map shown_byte text
    else map shown_byte (take (border_of text) text) ++ codes ".."

-- ---- the fields of a text

-- what is left of a text after this many fields, of which its word is the first, where this many
-- and a space are there
abbrev pub left_after : ℕ → List ℕ → Option (List ℕ)
left_after zero text = Some text
left_after (suc n) text = option_and_then (λ bytes. (cut 32 bytes).1) (left_after n text)

-- the field with an index: all that is left, or up to the next space
abbrev pub field_at : Bool → ℕ → List ℕ → Option (List ℕ)
field_at rest index text =
    option_map (λ left. if rest then left else (cut 32 left).0) (left_after index text)

-- what is in front of the first space
abbrev pub word_of : List ℕ → List ℕ
word_of text = (cut 32 text).0

-- what is before a remark, and the remark, where the text may have one and has one
abbrev pub parts_of : List ℕ → List ℕ × Option (List ℕ)
parts_of text =
    if takes_remark_in (row_named (word_of text)) then cut_remark text else (text, None)

-- ---- what is wrong

unfoldable pub quoted : List ℕ → List ℕ
quoted text = codes "'" ++ shown text ++ codes "'"

abbrev pub named : FieldKind → List ℕ
named kind = codes "the " ++ field_name kind

abbrev pub misspelt_text : FieldKind → List ℕ → List ℕ
misspelt_text kind bytes =
    codes " " ++ quoted bytes ++ verb kind ++ codes "no " ++ field_form kind

-- it is missing, or empty, or misspelt
abbrev pub field_text : FieldKind → Option (List ℕ) → List ℕ
field_text kind None = named kind ++ verb kind ++ codes "missing"
field_text kind (Some bytes) =
    named kind
    ++ (if length bytes == 0 then verb kind ++ codes "empty" else misspelt_text kind bytes)

-- how many values the field of the values before has
abbrev pub values_in : List ℕ → ℕ
values_in was =
    if bytes_eq was (codes "-") then 0 else length (slice_split (λ b. b == 44) was)

-- after this many attempts that are to count, one stays as it is
abbrev pub keeps_beyond : ℕ → List ℕ → Bool
keeps_beyond values now =
    list_any (λ part. bytes_eq part (codes "=")) (drop values (slice_split (λ b. b == 47) now))

abbrev pub kept_text : List ℕ → List ℕ
kept_text now =
    named kind.Now ++ codes " " ++ quoted now
    ++ codes " keep one that the values before do not have"

-- the attempts that are to count, after the field of the values before
abbrev pub now_text : Option (List ℕ) → Option (List ℕ) → List ℕ
now_text None given = field_text kind.Now given
now_text (Some was) None = field_text kind.Now None
now_text (Some was) (Some now) =
    if keeps_beyond (values_in was) now then kept_text now else field_text kind.Now (Some now)

-- a remark is empty, or misspelt
abbrev pub remark_text : List ℕ → List ℕ
remark_text bytes =
    codes "the remark "
    ++ (if length bytes == 0 then codes "is empty"
    else quoted bytes ++ codes " is no remark of at most 80 bytes with single spaces and no "
    ++ codes "double quote, as A 14:02")

-- what is after the last field: another one, or a remark
abbrev pub extra_text : Option (List ℕ) → Option (List ℕ) → List ℕ
extra_text None None = codes "a field is missing"
extra_text None (Some remark) = remark_text remark
extra_text (Some left) remark = quoted left ++ codes " is one field too many"

-- of the parts before the remark and of the remark
abbrev pub kind_text : Option FieldKind → ℕ → List ℕ × Option (List ℕ) → List ℕ
kind_text None index parts = extra_text (left_after index parts.0) parts.1
kind_text (Some field) index parts =
    if is_now field
    then now_text (field_at false (index - 1) parts.0) (left_after index parts.0)
    else field_text field (field_at (is_rest field) index parts.0)

abbrev pub index_text : ℕ → List ℕ → List ℕ
index_text index text = kind_text (kind_at (word_of text) index) index (parts_of text)

abbrev pub unknown_text : List ℕ → List ℕ
unknown_text text = quoted (word_of text) ++ codes " is no command, as ENT 333 17"

abbrev pub fault_text : List ℕ → CommandFault → List ℕ
fault_text text fault.TooLong = codes "the text has more than 600 bytes"
fault_text text fault.NotACommand = unknown_text text
fault_text text (fault.BadField index) = index_text index text
fault_text text fault.NoMemory = []

-- the number of the line, and what is wrong with its text
abbrev pub line_text : Numbered → CommandFault → List ℕ
line_text c f = codes "line " ++ decimal c.number ++ codes ": " ++ fault_text c.text f

-- what is said of a command that was read so, where the later ones come to this
abbrev pub or_fault : Numbered → Result RemarkedCommand CommandFault → Option (List ℕ)
    → Option (List ℕ)
or_fault c (Ok command) later = later
or_fault c (Err f) later = Some (line_text c f)

-- what is said of the first one that is no command in any edition
abbrev pub first_fault : List Numbered → Option (List ℕ)
first_fault [] = None
first_fault (c ∷ commands) = or_fault c (command_of c.text) (first_fault commands)
