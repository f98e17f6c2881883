-- What counts of an entrant in a round: the texts of its sheet (`sheets`), but for what people read
-- otherwise: no place where there is no attempt, the attempts that do not count in parentheses, and
-- who would advance where the round is open (the project's own).
use Rattle.std.specs.Prelude.{ℕ, Bool, true, false, not, ◌&&◌, nat_le, if◌then◌else◌, List, [], ◌∷◌}
use Rattle.std.specs.Prelude.{◌++◌, codes, decimal, flat_map, is_some, Option, None, Some}
use Rattle.std.specs.{Prelude.slice_get, Prelude.option_map, Prelude.unwrap_or, List.range_with_len}
use Rattle.attempts.specs.{declared.Value.Value, declared.Unit.Unit as Measure, Texts.value_text}
use Rattle.formats.specs.declared.{advance.Advance.Advance, events.Format.Format}
use Rattle.formats.specs.declared.advance.Advance.TheVariants.{Final, Top, Percent}
use Rattle.formats.specs.{declared.results.Averaged.Averaged, Events.attempts_of}
use Rattle.formats.specs.Results.{average_of, average_text, best_of, number_of}
use Rattle.rounds.specs.Tables.{Entrant, Table, entrant, place}
use Rattle.sheets.specs.Sheet.{best_text, name_text}
use Rattle.texts.specs.declared.command.{Command.Command, Settings.Settings}
use Rattle.board_rounds.specs.{Counting.is_left_out, declared.cells.TheConstants.NAME}
use Rattle.markup.specs.{board_page.Escaped.escaped, Pieces.fill}

-- ---- texts

abbrev pub place_words : ℕ → List Value → List ℕ
place_words place [] = []
place_words place (v ∷ vs) = decimal place

abbrev pub in_parentheses : Bool → List ℕ → List ℕ
in_parentheses true text = codes "(" ++ text ++ codes ")"
in_parentheses false text = text

abbrev pub result_words : Measure → Format → List Value → ℕ → Option Value → List ℕ
result_words unit format vs k None = codes "-"
result_words unit format vs k (Some v) =
    in_parentheses (is_left_out format vs k v) (value_text unit v)

-- the attempt at a place, counted from 0
abbrev pub attempt_words : Measure → Format → List Value → ℕ → List ℕ
attempt_words unit format vs k = result_words unit format vs k (slice_get vs k)

-- whether an entrant advances: of a final nothing is said, and of an open round who would advance
-- as it is
abbrev pub mark_words : Bool → Advance → Bool → List ℕ
mark_words true advance true = codes "yes"
mark_words true advance false = codes "would advance"
mark_words false advance false = []
mark_words false Final true = []
mark_words false (Top number) true = codes "no"
mark_words false (Percent percent) true = codes "no"

-- ---- cells

unfoldable pub cell : List ℕ → List ℕ
cell text = codes "<td>" ++ text ++ codes "</td>"

-- the name of a competitor, whose own page is behind it
unfoldable pub name_cell : ℕ → List ℕ → List ℕ
name_cell number name = fill NAME.now (decimal number ∷ escaped name ∷ [])

-- the beginning of a line, with a class for the style
abbrev pub line_start : Bool → Bool → List ℕ
line_start true true = codes "<tr class=\"yes\">"
line_start true false = codes "<tr class=\"would\">"
line_start false closed = codes "<tr class=\"no\">"

-- place, number and name
abbrev pub person_cells : ℕ → ℕ → List ℕ → List Value → List ℕ
person_cells place number name vs =
    cell (place_words place vs) ++ cell (decimal number) ++ name_cell number name

-- average and best
abbrev pub result_cells : Measure → Averaged → List Value → List ℕ
result_cells unit average vs = cell (average_text unit average) ++ cell (best_text unit vs)

-- a cell for each attempt of the format
abbrev pub attempt_cells : Measure → Format → List Value → ℕ → List ℕ
attempt_cells unit format vs count =
    flat_map (λ k. cell (attempt_words unit format vs k)) (range_with_len 0 count)

-- ---- lines

abbrev pub line_end : List ℕ
line_end = codes "</tr>\n"

abbrev pub mark_end : Bool → Advance → Bool → List ℕ
mark_end through advance closed = cell (mark_words through advance closed) ++ line_end

-- what counts of the entrant of this number: `through` says whether it is one of those who advance
abbrev pub line_with : Measure → Settings → Bool → Bool → ℕ → List ℕ → ℕ → Averaged → List Value
    → List ℕ
line_with unit settings closed through number name place average vs =
    line_start through closed ++ person_cells place number name vs
    ++ result_cells unit average vs
    ++ attempt_cells unit settings.format vs (attempts_of settings.format)
    ++ mark_end through settings.advance closed

-- the line of an entrant of this number, given who goes on
unfoldable pub entrant_line : Measure → Settings → Table → (ℕ → Bool) → ℕ → List ℕ → Entrant
    → List ℕ
entrant_line unit settings t goes number name e =
    line_with unit settings t.is_closed (goes number) number name (place t e)
    (average_of t.format t.unit e.values) e.values

-- the line of the entrant with a number
abbrev pub line_of : Measure → List Command → Settings → Table → (ℕ → Bool) → ℕ → List ℕ
line_of unit cs settings t goes n =
    unwrap_or (option_map (entrant_line unit settings t goes n (name_text cs n)) (entrant t n)) []

-- ---- podiums

-- this place with this best attempt is on the podium: 1 to 3, which several have where they tie,
-- and with a result
abbrev pub is_high : ℕ → Value → Bool
is_high place best = nat_le place 3 && is_some (number_of best)

abbrev pub stands_high : Table → Entrant → Bool
stands_high t e = is_high (place t e) (best_of e.values)

abbrev pub is_on_podium : Table → ℕ → Bool
is_on_podium t n = unwrap_or (option_map (stands_high t) (entrant t n)) false

-- the line of the entrant with a number; where the podium alone is shown, of who is on it
abbrev pub listed : Bool → Measure → List Command → Settings → Table → (ℕ → Bool) → ℕ → List ℕ
listed podium unit cs settings t goes n =
    if podium && not (is_on_podium t n) then [] else line_of unit cs settings t goes n
