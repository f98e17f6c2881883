-- The round beside the card: the texts of its sheet, a line for each entrant (the project's own).
use Rattle.std.specs.Prelude.{ℕ, Bool, true, false, ◌&&◌, List, [], ◌∷◌, ◌++◌, codes, decimal}
use Rattle.std.specs.{Prelude.flat_map, Prelude.option_map, Prelude.unwrap_or, List.range_with_len}
use Rattle.markup.specs.{board_page.Escaped.escaped, Pieces.fill}
use Rattle.attempts.specs.{declared.Value.Value, declared.Unit.Unit as Measure}
use Rattle.formats.specs.{declared.events.Format.Format, declared.results.Averaged.Averaged}
use Rattle.formats.specs.{Events.attempts_of, Events.unit_of, Results.average_of}
use Rattle.board_rounds.specs.{Rounds.attempt_headings, Rows.cell, Rows.result_cells}
use Rattle.commands.specs.Accepted.{seen_of}
use Rattle.rounds.specs.Tables.{Entrant, Table, entrant, place, standings}
use Rattle.round_counts.specs.Counts.{counts, progress_in}
use Rattle.round_counts.specs.declared.{counts.Counts.Counts, progress.Progress.Progress}
use Rattle.round_counts.specs.declared.progress.Progress.TheVariants.{Absent, Begun, Done}
use Rattle.round_words.specs.Words.{round_name, round_words}
use Rattle.sheets.specs.{declared.going_on.AdvancingEntrants.AdvancingEntrants, Going.is_told}
use Rattle.sheets.specs.Sheet.{attempt_text, is_marked}
use Rattle.texts.specs.declared.command.{Command.Command, RoundId.RoundId, Settings.Settings}
use Rattle.texts.specs.Spelling.{was_text}
use Rattle.table_views.specs.People.{name_in}
use Rattle.table_entry_views.specs.declared.beside.TheConstants.{COUNTS, NUMBER_LINK, SECTION_START}
use Rattle.table_entry_views.specs.declared.beside.TheConstants.{TABLE_START}

abbrev pub class_of : Progress → List ℕ
class_of Absent = codes "absent"
class_of Begun = codes "begun"
class_of Done = codes "done"

-- the line says what counts, as `CARD` spells it, under a class for how far the entrant has come
abbrev pub line_start : Progress → List Value → List ℕ
line_start progress values =
    codes "<tr class=\"" ++ class_of progress ++ codes "\" data-was=\"" ++ was_text values
    ++ codes "\">"

-- the entrant's place, number, with a link to the entrant's card, and name
abbrev pub person_cells : List Command → RoundId → ℕ → ℕ → List ℕ
person_cells cs id place number =
    cell (decimal place) ++ codes "<td><a href=\"/card/" ++ round_name id
    ++ fill NUMBER_LINK.now (decimal number ∷ decimal number ∷ [])
    ++ escaped (name_in cs number) ++ codes "</td>"

-- a cell for each attempt of the format
abbrev pub attempt_cells : Measure → List Value → ℕ → List ℕ
attempt_cells unit vs count =
    flat_map (λ k. cell (attempt_text unit vs k)) (range_with_len 0 count)

-- who advances is said once the round is closed
abbrev pub is_through : Table → AdvancingEntrants → ℕ → Bool
is_through t going n = t.is_closed && is_told going t n

abbrev pub line_end : Bool → List ℕ
line_end true = codes "<td>yes</td></tr>\n"
line_end false = codes "<td>no</td></tr>\n"

-- what counts of the entrant of this number, as the sheet has it
abbrev pub line_with : List Command → RoundId → Format → Measure → Progress → Bool → ℕ → ℕ
    → Averaged → List Value → List ℕ
line_with cs id format unit progress through number place average vs =
    line_start progress vs ++ person_cells cs id place number ++ result_cells unit average vs
    ++ attempt_cells unit vs (attempts_of format) ++ line_end through

-- the line of an entrant
unfoldable pub entrant_line : List Command → RoundId → Settings × Table → ℕ → Entrant → List ℕ
entrant_line cs id r n e =
    line_with cs id r.0.format (unit_of id.event) (progress_in r.0.format r.1 n)
    (is_marked r.1 (seen_of cs id.event id.round) n) n (place r.1 e)
    (average_of r.1.format r.1.unit e.values) e.values

-- the line of the entrant with a number
abbrev pub line : List Command → RoundId → Settings × Table → ℕ → List ℕ
line cs id r n = unwrap_or (option_map (entrant_line cs id r n) (entrant r.1 n)) []

abbrev pub count_line : Counts → List ℕ
count_line counted =
    fill COUNTS.now (decimal counted.done ∷ decimal counted.entrants ∷ decimal counted.begun
    ∷ decimal counted.absent ∷ [])

-- the names of the columns
abbrev pub table_start : Format → List ℕ
table_start format =
    TABLE_START.now ++ attempt_headings (attempts_of format)
    ++ codes "<th scope=\"col\">advances</th></tr></thead><tbody>\n"

-- the round, and how far its entrants have come
abbrev pub section_head : RoundId → Settings → Table → List ℕ
section_head id settings t =
    SECTION_START.now ++ round_words id settings.advance ++ codes "</h2>\n"
    ++ count_line (counts settings.format t)

-- the section of a round: each entrant has a line, in order of place
abbrev pub section : List Command → RoundId → Settings × Table → List ℕ
section cs id r =
    section_head id r.0 r.1 ++ table_start r.0.format ++ flat_map (line cs id r) (standings r.1)
    ++ codes "</tbody></table>\n</section></div>\n"
