-- What is said of an export that is made: rounds that still run, rounds that are left out, and
-- formats that differ (the project's own).
use Rattle.std.specs.Prelude.{ℕ, if◌then◌else◌, Bool, true, false, List, [], ◌∷◌, ◌++◌, flat_map}
use Rattle.std.specs.Prelude.{bytes_eq, codes, Option, Some, None, map}
use Rattle.std.specs.List.{list_any}
use Rattle.json.specs.Json.{Json}
use Rattle.formats.specs.declared.events.Format.{Format}
use Rattle.formats.specs.declared.events.Format.TheVariants.{Ao5, Mo3, Bo1, Bo2, Bo3}
use Rattle.texts.specs.declared.command.Command.{Command}
use Rattle.wcif_results.specs.{declared.note.ExportNote.ExportNote, Faults.file_rounds, Faults.held}
use Rattle.wcif_results.specs.{Faults.round_with_id, MeetRounds.MeetRound, MeetRounds.meet_rounds}
use Rattle.wcif_results.specs.declared.note.ExportNote.TheVariants as note

-- a format as a file has it
abbrev pub format_text : Format → List ℕ
format_text Ao5 = codes "a"
format_text Mo3 = codes "m"
format_text Bo1 = codes "1"
format_text Bo2 = codes "2"
format_text Bo3 = codes "3"

abbrev pub running_notes : MeetRound → List ExportNote
running_notes r = if r.table.is_closed then [] else note.Running r.event r.number ∷ []

-- where the file's round has this format
abbrev pub format_notes : MeetRound → List ℕ → List ExportNote
format_notes r text =
    if bytes_eq text (format_text r.format) then []
    else note.OtherFormat r.event r.number r.format text ∷ []

-- of a round, given the id and the format of the file's round with its id
abbrev pub placed_notes : MeetRound → Option (List ℕ × List ℕ) → List ExportNote
placed_notes r (Some e) = running_notes r ++ format_notes r e.1
placed_notes r None = note.LeftOut r.event r.number ∷ []

abbrev pub round_notes : List (List ℕ × List ℕ) → MeetRound → List ExportNote
round_notes es r = placed_notes r (round_with_id r.id es)

unfoldable pub notes_of : List MeetRound → Json → List ExportNote
notes_of rs d = flat_map (round_notes (map held (file_rounds d))) rs

-- all that is told of the file with the results of the meet, by rounds
abbrev pub notes : List Command → Json → List ExportNote
notes cs d = notes_of (meet_rounds cs) d

abbrev pub is_running : ExportNote → Bool
is_running (note.Running e r) = true
is_running (note.LeftOut e r) = false
is_running (note.OtherFormat e r format text) = false

-- a round still runs
abbrev pub any_runs : List ExportNote → Bool
any_runs ns = list_any is_running ns
