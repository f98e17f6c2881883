-- A model of the code: whom the sheet of a round that is written marks.
use Rattle.std.specs.Prelude.{◌≡◌, ℕ, Bool, Some}
use Rattle.commands.specs.Accepted.{round_of, seen_of}
use Rattle.json.specs.Json.{Json}
use Rattle.rounds.specs.Tables.{Entrant}
use Rattle.sheets.specs.{declared.going_on.AdvancingEntrants.AdvancingEntrants, Going.Tells}
use Rattle.sheets.specs.Sheet.{is_marked}
use Rattle.wcif_results.specs.declared.results_json.rounds_written.ExportedRound.{ExportedRound}
use Rattle.wcif_results.specs.results_json.Entrants.{entrant_json}

-- it is a round that was opened, with its settings and its table
abbrev pub IsOpened : ExportedRound → Type 0
IsOpened r = round_of r.meet.now.accepted r.event r.number ≡ Some (r.settings, r.table.now)

-- what is kept tells who goes on from it
abbrev pub TellsOpened : ExportedRound → AdvancingEntrants → Type 0
TellsOpened r going = Tells going r.table.now (seen_of r.meet.now.accepted r.event r.number)

abbrev pub marks_of : ExportedRound → ℕ → Bool
marks_of r = is_marked r.table.now (seen_of r.meet.now.accepted r.event r.number)

-- what the results have of an entrant of this number
abbrev pub entrant_in : ExportedRound → ℕ → Entrant → Json
entrant_in r number e =
    entrant_json r.meet.now.accepted r.settings r.table.now (marks_of r) number e
