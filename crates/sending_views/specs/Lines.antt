-- What is open between a list and the competition's file, line by line, each with what to do (the
-- project's own). What it says is what an export is refused for, and what it remarks.
use Rattle.std.specs.Prelude.{ℕ, Bool, true, false, not, if◌then◌else◌, List, [], ◌∷◌, ◌++◌, codes}
use Rattle.std.specs.Prelude.{decimal, Option, None, Some}
use Rattle.commands.specs.Accepted.{round_by}
use Rattle.formats.specs.Events.{format_name}
use Rattle.markup.specs.{board_page.Escaped.escaped, Pieces.fill}
use Rattle.round_words.specs.Words.{round_name, round_words}
use Rattle.rounds.specs.Tables.{Table, is_attempted}
use Rattle.table_views.specs.Forms.{round_numbered}
use Rattle.texts.specs.declared.command.{Command.Command, RoundId.RoundId, Settings.Settings}
use Rattle.wcif_results.specs.declared.{fault.MeetFault.MeetFault, note.ExportNote.ExportNote}
use Rattle.sending_views.specs.declared.open_lines.TheConstants.{LEFT_OUT, NO_PERSON, NO_ROUND}
use Rattle.sending_views.specs.declared.open_lines.TheConstants.{NOT_ACCEPTED, OTHER_FORMAT}
use Rattle.sending_views.specs.declared.open_lines.TheConstants.{OTHER_NAME, RUNNING}
use Rattle.wcif_results.specs.declared.fault.MeetFault.TheVariants as fault
use Rattle.wcif_results.specs.declared.note.ExportNote.TheVariants as note

abbrev pub called_if : RoundId → Option (Settings × Table) → List ℕ
called_if id None = round_name id
called_if id (Some round) = round_words id round.0.advance

-- a round in words, where it was opened
abbrev pub called : List Command → RoundId → List ℕ
called accepted id = called_if id (round_by accepted id)

-- a link to the round's forms
unfoldable pub round_cell : List Command → RoundId → List ℕ
round_cell accepted id =
    codes "<tr><th scope=\"row\"><a href=\"/rounds?round=" ++ round_name id ++ codes "\">"
    ++ called accepted id ++ codes "</a></th>"

-- ---- what an export is refused for

abbrev pub fault_round : MeetFault → RoundId
fault_round (fault.NoRound event round) = round_numbered event round
fault_round (fault.NoPerson event round number name) = round_numbered event round
fault_round (fault.NotAccepted event round number name other) = round_numbered event round
fault_round (fault.OtherName event round number name other) = round_numbered event round

abbrev pub fault_cells : MeetFault → List ℕ
fault_cells (fault.NoRound event round) = NO_ROUND.now
fault_cells (fault.NoPerson event round number name) =
    fill NO_PERSON.now (decimal number ∷ escaped name ∷ [])
fault_cells (fault.NotAccepted event round number name other) =
    fill NOT_ACCEPTED.now (decimal number ∷ escaped name ∷ escaped other ∷ [])
fault_cells (fault.OtherName event round number name other) =
    fill OTHER_NAME.now
    (decimal number ∷ escaped name ∷ escaped other ∷ decimal number ∷ [])

abbrev pub fault_line : List Command → MeetFault → List ℕ
fault_line accepted f = round_cell accepted (fault_round f) ++ fault_cells f

-- ---- what it remarks

abbrev pub note_round : ExportNote → RoundId
note_round (note.Running event round) = round_numbered event round
note_round (note.LeftOut event round) = round_numbered event round
note_round (note.OtherFormat event round format other) = round_numbered event round

abbrev pub note_cells : ExportNote → List ℕ
note_cells (note.Running event round) = RUNNING.now
note_cells (note.LeftOut event round) = LEFT_OUT.now
note_cells (note.OtherFormat event round format other) =
    fill OTHER_FORMAT.now (format_name format ∷ escaped other ∷ [])

abbrev pub has_result_in : Option (Settings × Table) → Bool
has_result_in None = false
has_result_in (Some round) = is_attempted round.1 1

abbrev pub has_result : List Command → RoundId → Bool
has_result accepted id = has_result_in (round_by accepted id)

-- a note holds beside the faults: that a round is left out is said where it has no result, since
-- the file's lack of one that has a result is a fault
abbrev pub holds_beside : List Command → ExportNote → Bool
holds_beside accepted (note.Running event round) = true
holds_beside accepted (note.LeftOut event round) =
    not (has_result accepted (round_numbered event round))
holds_beside accepted (note.OtherFormat event round format other) = true

abbrev pub note_line : List Command → ExportNote → List ℕ
note_line accepted n =
    if holds_beside accepted n then round_cell accepted (note_round n) ++ note_cells n else []
