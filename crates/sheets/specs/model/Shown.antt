-- A model of the code: what is printed of the round that is shown.
use Rattle.std.specs.Prelude.{◌≡◌, ℕ, Bool, List, Some}
use Rattle.formats.specs.Events.{attempts_of, unit_of}
use Rattle.rounds.specs.declared.table.EntrantRow.{EntrantRow}
use Rattle.sheets.specs.{declared.going_on.AdvancingEntrants.AdvancingEntrants, Going.Tells}
use Rattle.sheets.specs.{declared.shown.SheetRound.SheetRound, Sheet.record_of, Sheet.text_of_round}
use Rattle.sheets.specs.Sheet.{name_text, entrant_fields, line_of, table_of_round, is_marked}
use Rattle.commands.specs.Accepted.{round_of, seen_of}

-- it is a round that was opened, with its settings and its table
abbrev pub IsOpened : SheetRound → Type 0
IsOpened s = round_of s.meet.now.accepted s.event s.round ≡ Some (s.settings, s.table.now)

-- what is kept tells who goes on from it
abbrev pub TellsShown : SheetRound → AdvancingEntrants → Type 0
TellsShown s going = Tells going s.table.now (seen_of s.meet.now.accepted s.event s.round)

-- whom the sheet marks
abbrev pub marks_shown : SheetRound → ℕ → Bool
marks_shown s = is_marked s.table.now (seen_of s.meet.now.accepted s.event s.round)

-- the line of the entrant with a number
abbrev pub line_shown : SheetRound → ℕ → List ℕ
line_shown s n =
    line_of (unit_of s.event) s.meet.now.accepted s.settings s.table.now (marks_shown s) n

-- the text at a position
abbrev pub text_shown : SheetRound → ℕ → List ℕ
text_shown s position =
    text_of_round s.meet.now.accepted s.event s.round position (s.settings, s.table.now)

-- the fields of a row
abbrev pub fields_shown : SheetRound → EntrantRow → ℕ → Bool → List (List ℕ)
fields_shown s row n marked =
    entrant_fields (unit_of s.event) (attempts_of s.settings.format) row.place n
    (name_text s.meet.now.accepted n) row.average row.values.now marked

-- the record of the entrant with a number
abbrev pub record_shown : SheetRound → ℕ → List ℕ
record_shown s n =
    record_of (unit_of s.event) s.meet.now.accepted s.settings s.table.now (marks_shown s) n

-- the table
abbrev pub table_shown : SheetRound → List ℕ
table_shown s = table_of_round s.meet.now.accepted s.event s.round (s.settings, s.table.now)
