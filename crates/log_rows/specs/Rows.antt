-- The log of a hall as people read it, a format of this project's own: a row for each entry, in
-- columns.
use Rattle.std.specs.Prelude.{◌≡◌, ℕ, ◌+◌, ◌-◌, ◌&&◌, Bool, true, false, not, nat_le, nat_lt}
use Rattle.std.specs.Prelude.{if◌then◌else◌, List, [], ◌++◌, length, take, map, flat_map, replicate}
use Rattle.std.specs.Prelude.{count_by, codes, decimal, slice_get, unwrap_or, Some, Result, Ok, Err}
use Rattle.std.specs.{List.range_with_len, Option.option_map_or}
use Rattle.acceptor.specs.declared.entry.Entry.{Entry}
use Rattle.answers.specs.Transcripts.{answer_after}
use Rattle.last_change.specs.Changes.{is_change, reads_change}
use Rattle.sheets.specs.Sheet.{right}
use Rattle.texts.specs.{Codes.code_name, Fields.round_id, Names.is_name_byte, Reading.command_of}
use Rattle.texts.specs.declared.answer.Answer.{Answer, TheVariants.Done, TheVariants.Refused}
use Rattle.texts.specs.declared.command.RemarkedCommand.{RemarkedCommand}
use Rattle.texts.specs.declared.reading.CommandFault.{CommandFault}
use Rattle.log_rows.specs.declared.writing.ShownEntries.{ShownEntries}
use Rattle.log_rows.specs.declared.writing.ShownEntries.TheVariants.{All, ChangesOf}

-- ---- a row

-- a character begins with this byte
abbrev pub begins : ℕ → Bool
begins b = not (nat_le 128 b && nat_lt b 192)

-- a text on the left of this many columns, one for each character
abbrev pub left : ℕ → List ℕ → List ℕ
left width text = text ++ replicate (width - count_by begins text) 32

-- what is printed of a byte: a question mark where it is below 32, or 127
abbrev pub printed : ℕ → ℕ
printed b = if is_name_byte b then b else 63

abbrev pub answer_word : Answer → List ℕ
answer_word Done = codes "Done"
answer_word (Refused code) = code_name code

-- the remark of what a text reads as; none is empty
abbrev pub remark_of : Result RemarkedCommand CommandFault → List ℕ
remark_of (Ok told) = unwrap_or told.remark []
remark_of (Err fault) = []

-- a text without its remark, and without the ` # ` in front of that
abbrev pub before_remark : List ℕ → List ℕ → List ℕ
before_remark remark text =
    if nat_lt 0 (length remark) then take (length text - (length remark + 3)) text else text

-- a column that another one follows
unfoldable pub column : ℕ → List ℕ → List ℕ
column width text = left width text ++ codes "  "

-- how many entries the log has up to and with this one, the entry's id, and its answer
unfoldable pub row_start : ℕ → ℕ → Answer → List ℕ
row_start position id answer =
    right 6 (decimal (position + 1)) ++ codes "  " ++ column 19 (decimal id)
    ++ column 17 (answer_word answer)

-- its remark, and its text
unfoldable pub row_end : List ℕ → List ℕ → List ℕ
row_end remark text =
    column 24 remark ++ map printed (before_remark remark text) ++ codes "\n"

abbrev pub row : ℕ → Entry → Answer → List ℕ
row position e answer =
    row_start position e.id answer ++ row_end (remark_of (command_of e.text)) e.text

abbrev pub heading : List ℕ
heading =
    codes "result  id                   answer             remark                    command\n"

-- ---- the rows

-- the entry at a position is one of those that are shown: any, or one that was accepted and changed
-- the attempts of a competitor in a round
abbrev pub is_shown : ShownEntries → List Entry → ℕ → Bool
is_shown All log position = true
is_shown (ChangesOf whose) log position =
    is_change log (round_id whose.event whose.round) whose.number position

-- where it is known how the entry was answered, and what its text is
abbrev pub is_shown_so : ShownEntries → Answer → List ℕ → Bool
is_shown_so All answer text = true
is_shown_so (ChangesOf whose) Done text =
    reads_change (round_id whose.event whose.round) whose.number (command_of text)
is_shown_so (ChangesOf whose) (Refused code) text = false

-- the row of the entry at a position
abbrev pub row_at : List Entry → ℕ → List ℕ
row_at log position =
    option_map_or (λ e. row position e (answer_after (take position log) e))
    (slice_get log position) []

-- the row, where the position is not in front of `from` and the entry is shown
abbrev pub row_from : ℕ → ShownEntries → List Entry → ℕ → List ℕ
row_from from shown log position =
    if nat_le from position && is_shown shown log position then row_at log position else []

-- what is added is the row of an entry with its answer, as in a log that has the entry at the
-- position
abbrev pub AddsRow : ℕ → ShownEntries → ℕ → Entry → Answer → (old new : List ℕ) → Type 0
AddsRow from shown position entry answer old new =
    (log : List Entry) → slice_get log position ≡ Some entry
    → answer ≡ answer_after (take position log) entry
    → new ≡ old ++ row_from from shown log position

-- the heading and the rows, by position
abbrev pub rows : ℕ → ShownEntries → List Entry → List ℕ
rows from shown log =
    heading ++ flat_map (row_from from shown log) (range_with_len 0 (length log))
