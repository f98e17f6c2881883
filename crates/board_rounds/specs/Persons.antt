-- Competitors, and the rounds that one of them is in, in HTML.
use Rattle.std.specs.Prelude.{ℕ, ◌+◌, Bool, List, [], ◌∷◌, ◌++◌, codes, decimal, flat_map}
use Rattle.std.specs.{Prelude.option_map, Prelude.unwrap_or, List.range_with_len}
use Rattle.attempts.specs.declared.{Value.Value, Unit.Unit as Measure}
use Rattle.commands.specs.Accepted.{name_of, round_of}
use Rattle.formats.specs.declared.{advance.Advance.Advance, events.Format.Format}
use Rattle.formats.specs.{Events.attempts_of, Events.unit_of, Results.average_of}
use Rattle.rounds.specs.Tables.{Entrant, Table, entrant, place}
use Rattle.texts.specs.declared.command.{Command.Command, RoundId.RoundId, Settings.Settings}
use Rattle.markup.specs.{board_page.Escaped.escaped, Pieces.fill}
use Rattle.board_rounds.specs.{Rounds.below, Rows.result_cells}
use Rattle.board_rounds.specs.Rows.{attempt_words, cell, line_end, name_cell, place_words}
use Rattle.round_words.specs.Words.{round_name, round_words, state_words}
use Rattle.board_rounds.specs.declared.persons.TheConstants.{PEOPLE, START}

-- the round, whose own page is behind it
unfoldable pub round_cell : List ℕ → List ℕ → List ℕ
round_cell name words =
    codes "<tr><th scope=\"row\"><a href=\"/" ++ name ++ codes "\">" ++ words
    ++ codes "</a></th>"

abbrev pub attempt_after : Measure → Format → List Value → ℕ → List ℕ
attempt_after unit format vs k = codes " " ++ attempt_words unit format vs k

-- the attempts one after the other
abbrev pub attempts_words : Measure → Format → List Value → ℕ → List ℕ
attempts_words unit format vs count =
    flat_map (attempt_after unit format vs) (range_with_len 0 count)

-- how far the round is, and the end of a line
abbrev pub state_end : Bool → Advance → List ℕ
state_end closed advance = cell (state_words closed advance) ++ line_end

-- round, place, average, best, attempts, and how far the round is
unfoldable pub entry_of : RoundId → Settings × Table → Entrant → List ℕ
entry_of id r e =
    round_cell (round_name id) (round_words id r.0.advance)
    ++ cell (place_words (place r.1 e) e.values)
    ++ result_cells (unit_of id.event) (average_of r.1.format r.1.unit e.values) e.values
    ++ cell (attempts_words (unit_of id.event) r.0.format e.values (attempts_of r.0.format))
    ++ state_end r.1.is_closed r.0.advance

abbrev pub entry_in : ℕ → RoundId → Settings × Table → List ℕ
entry_in n id r = unwrap_or (option_map (entry_of id r) (entrant r.1 n)) []

-- a competitor in a round, where it was opened and the competitor is an entrant
abbrev pub entry : List Command → ℕ → RoundId → List ℕ
entry cs n id = unwrap_or (option_map (entry_in n id) (round_of cs id.event id.round)) []

-- name and number
unfoldable pub person_start : ℕ → List ℕ → List ℕ
person_start n name = fill START.now (escaped name ∷ decimal n ∷ [])

-- a competitor of this number and name, in those of these rounds that the competitor is in
unfoldable pub person : List Command → ℕ → ℕ → List RoundId → List ℕ → List ℕ
person cs position n ids name =
    person_start n name ++ flat_map (entry cs n) ids ++ below position

-- a competitor, where the number is registered
abbrev pub person_of : List Command → ℕ → ℕ → List RoundId → List ℕ
person_of cs position n ids = unwrap_or (option_map (person cs position n ids) (name_of cs n)) []

-- ---- all competitors

-- number and name, behind which the competitor's own page is
abbrev pub competitor : ℕ → List ℕ → List ℕ
competitor n name = codes "<tr>" ++ cell (decimal n) ++ name_cell n name ++ line_end

-- the competitor of the next number, where it is registered
abbrev pub next_competitor : List Command → ℕ → List ℕ
next_competitor cs n =
    unwrap_or (option_map (competitor (n + 1)) (name_of cs (n + 1))) []

-- those whose numbers are up to this one
unfoldable pub competitors : List Command → ℕ → List ℕ
competitors cs last = flat_map (next_competitor cs) (range_with_len 0 last)

unfoldable pub people : List Command → ℕ → List ℕ
people cs position = PEOPLE.now ++ competitors cs 9999 ++ below position
