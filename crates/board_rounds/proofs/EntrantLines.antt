-- What is printed of a row is what is printed of its entrant.
use Rattle.std.proofs.Common.{◌≡◌, ℕ, Bool, List, [], ◌++◌, refl, sym, ap, ◌∙◌}
use Rattle.std.specs.Prelude.{option_map, unwrap_or}
use Rattle.attempts.specs.declared.Unit.{Unit as Measure}
use Rattle.formats.specs.Events.{attempts_of, unit_of}
use Rattle.rounds.specs.{declared.table.EntrantRow.EntrantRow, Rows.IsRow}
use Rattle.rounds.specs.Tables.{Entrant, Table}
use Rattle.sheets.specs.Sheet.{name_text}
use Rattle.texts.specs.declared.command.{Command.Command, RoundId.RoundId, Settings.Settings}
use Rattle.board_rounds.specs.Persons.{attempts_words, entry_in, entry_of, round_cell, state_end}
use Rattle.board_rounds.specs.Rows.{attempt_cells, cell, entrant_line, line_of, line_start}
use Rattle.board_rounds.specs.Rows.{mark_end, person_cells, place_words, result_cells}
use Rattle.round_words.specs.Words.{round_name, round_words}

pub line_of_row : (unit : Measure) (cs : List Command) (settings : Settings) (t : Table)
    (goes : ℕ → Bool) (n : ℕ) (e : Entrant) (row : EntrantRow) (shown : Measure) (count : ℕ)
    (through closed : Bool) (name : List ℕ)
    → IsRow t n e row → shown ≡ unit → count ≡ attempts_of settings.format
    → through ≡ goes n → closed ≡ t.is_closed → name ≡ name_text cs n
    → line_start through closed ++ person_cells row.place n name row.values.now
    ++ result_cells shown row.average row.values.now
    ++ attempt_cells shown settings.format row.values.now count
    ++ mark_end through settings.advance closed ≡ line_of unit cs settings t goes n
unfolding entrant_line
line_of_row unit cs settings t goes n e row shown count through closed name is in_unit of_format
    as_told is_closed named =
    let line : line_start through closed ++ person_cells row.place n name row.values.now
    ++ result_cells shown row.average row.values.now
    ++ attempt_cells shown settings.format row.values.now count
    ++ mark_end through settings.advance closed
    ≡ entrant_line unit settings t goes n (name_text cs n) e =
    rw (in_unit, of_format, as_told, is_closed, named, is.values, is.average, is.place) refl in
    line ∙ sym
    (ap (λ o. unwrap_or
    (option_map (entrant_line unit settings t goes n (name_text cs n)) o) []) is.entrant)

pub entry_of_row : (id : RoundId) (settings : Settings) (t : Table) (n : ℕ) (e : Entrant)
    (row : EntrantRow) (shown : Measure) (count : ℕ) (closed : Bool) → IsRow t n e row
    → shown ≡ unit_of id.event → count ≡ attempts_of settings.format → closed ≡ t.is_closed
    → round_cell (round_name id) (round_words id settings.advance)
    ++ cell (place_words row.place row.values.now)
    ++ result_cells shown row.average row.values.now
    ++ cell (attempts_words shown settings.format row.values.now count)
    ++ state_end closed settings.advance ≡ entry_in n id (settings, t)
unfolding entry_of
entry_of_row id settings t n e row shown count closed is in_unit of_format is_closed =
    let line : round_cell (round_name id) (round_words id settings.advance)
    ++ cell (place_words row.place row.values.now)
    ++ result_cells shown row.average row.values.now
    ++ cell (attempts_words shown settings.format row.values.now count)
    ++ state_end closed settings.advance ≡ entry_of id (settings, t) e =
    rw (in_unit, of_format, is_closed, is.values, is.average, is.place) refl in
    line ∙ sym (ap (λ o. unwrap_or (option_map (entry_of id (settings, t)) o) []) is.entrant)
