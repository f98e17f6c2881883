-- A model of the code: what is printed of the round that is shown.
use Rattle.std.specs.Prelude.{◌≡◌, ℕ, Bool, List, Some}
use Rattle.formats.specs.Events.{unit_of}
use Rattle.board_rounds.specs.{declared.shown.BoardRound.BoardRound, Persons.entry_in}
use Rattle.board_rounds.specs.{Rows.line_of, Rows.listed, Rounds.section_of, Rounds.link_of}
use Rattle.commands.specs.Accepted.{round_of, seen_of}
use Rattle.sheets.specs.{declared.going_on.AdvancingEntrants.AdvancingEntrants, Going.Tells}
use Rattle.sheets.specs.Sheet.{goes_through}

-- it is a round that was opened, with its settings and its table
abbrev pub IsOpened : BoardRound → Type 0
IsOpened s =
    round_of s.meet.now.accepted s.id.event s.id.round ≡ Some (s.settings, s.table.now)

-- what is kept tells who goes on from it
abbrev pub TellsShown : BoardRound → AdvancingEntrants → Type 0
TellsShown s going =
    Tells going s.table.now (seen_of s.meet.now.accepted s.id.event s.id.round)

-- who goes on
abbrev pub through_shown : BoardRound → ℕ → Bool
through_shown s = goes_through (seen_of s.meet.now.accepted s.id.event s.id.round)

-- the line of the entrant with a number
abbrev pub line_shown : BoardRound → ℕ → List ℕ
line_shown s n =
    line_of (unit_of s.id.event) s.meet.now.accepted s.settings s.table.now (through_shown s) n

-- the same, where the podium alone may be shown
abbrev pub listed_shown : Bool → BoardRound → ℕ → List ℕ
listed_shown podium s n =
    listed podium (unit_of s.id.event) s.meet.now.accepted s.settings s.table.now
    (through_shown s) n

-- the round at a position, or its podium
abbrev pub section_shown : Bool → BoardRound → ℕ → List ℕ
section_shown podium s position =
    section_of podium s.meet.now.accepted s.id position (s.settings, s.table.now)

-- a link to it
abbrev pub link_shown : BoardRound → List ℕ
link_shown s = link_of s.id (s.settings, s.table.now)

-- a competitor in it
abbrev pub entry_shown : BoardRound → ℕ → List ℕ
entry_shown s n = entry_in n s.id (s.settings, s.table.now)
