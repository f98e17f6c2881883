-- A sheet fits into a frame (the project's own).
use Rattle.std.specs.Prelude.{◌≡◌, ◌^◌, ◌<◌, ◌≤◌, ℕ, List, length, Some}
use Rattle.formats.specs.declared.{events.Event.Event, styles.SheetStyle.SheetStyle as Style}
use Rattle.commands.specs.History.{history}
use Rattle.sheets.specs.Sheet.{sheet}

-- of every list of entries, each an id and a text, every sheet at a position that is a u32 has at
-- most 299,992 bytes
abbrev pub FitsInAFrame : Type 0
FitsInAFrame =
    (entries : List (ℕ × List ℕ)) (style : Style) (event : Event) (round position : ℕ)
    (text : List ℕ) → position < 2 ^ 32
    → sheet style (history entries).accepted event round position ≡ Some text → length text ≤ 299992
