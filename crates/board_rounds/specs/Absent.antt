-- Who is absent from a round (the project's own): an entrant for whom attempts are entered, and who
-- started none of them. The result of an attempt that was not started is DNS (WCA Regulations,
-- article 9f5).
use Rattle.std.specs.Prelude.{ℕ, Bool, false, not, if◌then◌else◌, List, [], ◌∷◌, flat_map}
use Rattle.std.specs.{Prelude.option_map, Prelude.unwrap_or, List.list_any}
use Rattle.attempts.specs.declared.Value.{Value}
use Rattle.rounds.specs.Tables.{Entrant, Table, entrant, is_started_attempt, standings}
use Rattle.sheets.specs.Sheet.{name_text}
use Rattle.texts.specs.declared.command.Command.{Command}
use Rattle.markup.specs.{board_page.Escaped.escaped, Pieces.fill}
use Rattle.board_rounds.specs.declared.absent.TheConstants.{ABSENT}

-- some attempts are entered, and each of them is DNS
abbrev pub is_absent : List Value → Bool
is_absent [] = false
is_absent (v ∷ vs) = not (list_any is_started_attempt (v ∷ vs))

-- the words on a competitor of this name
unfoldable pub absent_line : List ℕ → List ℕ
absent_line name = fill ABSENT.now (escaped name ∷ [])

-- the words on an entrant of this name, who is absent
abbrev pub line_if_absent : List ℕ → Entrant → List ℕ
line_if_absent name e = if is_absent e.values then absent_line name else []

-- the words on the entrant with a number, who is absent
abbrev pub absent_in : List Command → Table → ℕ → List ℕ
absent_in cs t n = unwrap_or (option_map (line_if_absent (name_text cs n)) (entrant t n)) []

-- the words on all who are absent, in the order of the sheet
abbrev pub absent : List Command → Table → List ℕ
absent cs t = flat_map (absent_in cs t) (standings t)
