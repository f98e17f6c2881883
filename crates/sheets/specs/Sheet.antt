-- The result sheet of a round, as a function of the accepted commands, the event, the round and the
-- position. Its two forms are this project's own, in every edition.
use Rattle.std.specs.Prelude.{ℕ, ◌-◌, Bool, true, false, ◌&&◌, List, [], ◌∷◌, ◌++◌, length, Option}
use Rattle.std.specs.Prelude.{replicate, map, flat_map, slice_get, unwrap_or, codes, decimal, None}
use Rattle.std.specs.{Prelude.Some, List.range_with_len, Option.option_map}
use Rattle.csv.specs.Writing.{row_text, default_writer}
use Rattle.attempts.specs.{declared.Value.Value, declared.Unit.Unit as Measure, Texts.value_text}
use Rattle.attempts.specs.declared.Unit.TheVariants.{Time, Moves, Multi}
use Rattle.formats.specs.declared.events.{Event.Event, Format.Format}
use Rattle.formats.specs.Events.{event_name, format_name, attempts_of, unit_of}
use Rattle.formats.specs.declared.{results.Averaged.Averaged, styles.SheetStyle.SheetStyle as Style}
use Rattle.formats.specs.Results.{best_of, average_of, average_text}
use Rattle.texts.specs.declared.command.{Command.Command, Settings.Settings}
use Rattle.advancement.specs.Advancing.{goes_on}
use Rattle.texts.specs.Spelling.{cutoff_text, limit_text, advance_text}
use Rattle.rounds.specs.Tables.{Entrant, Table, entrant, place, standings}
use Rattle.commands.specs.Accepted.{name_of, round_of, seen_of}
use Rattle.formats.specs.declared.styles.SheetStyle.TheVariants as style

-- ---- what a sheet says of a round

abbrev pub state_text : Bool → List ℕ
state_text true = codes "closed"
state_text false = codes "open"

-- ---- what a sheet says of an entrant

-- the best, where there is an attempt
abbrev pub best_text : Measure → List Value → List ℕ
best_text unit [] = codes "-"
best_text unit (v ∷ vs) = value_text unit (best_of (v ∷ vs))

-- the attempt at a place, where it is there
abbrev pub attempt_text : Measure → List Value → ℕ → List ℕ
attempt_text unit vs k = unwrap_or (option_map (value_text unit) (slice_get vs k)) (codes "-")

abbrev pub name_text : List Command → ℕ → List ℕ
name_text cs n = unwrap_or (name_of cs n) []

-- a number goes on from a round: it is one of those who advance
abbrev pub goes_through : Option (Settings × Table) → ℕ → Bool
goes_through None n = false
goes_through (Some round) n = goes_on round.1 round.0.advance n

-- who goes on is marked once the round is closed. Of a round whose next one is opened it is asked
-- as it was then: those who advanced stay marked, though the attempts were fixed since.
abbrev pub is_marked : Table → Option (Settings × Table) → ℕ → Bool
is_marked t seen n = t.is_closed && goes_through seen n

-- ---- the text

-- a text on the right of this many columns
abbrev pub right : ℕ → List ℕ → List ℕ
right width text = replicate (width - length text) 32 ++ text

abbrev pub mark : Bool → List ℕ
mark true = codes "Q"
mark false = codes "-"

-- the first line
abbrev pub title : Event → ℕ → Format → List ℕ
title event round format =
    event_name event ++ codes " round " ++ decimal round ++ codes " " ++ format_name format

abbrev pub standing : Bool → ℕ → List ℕ
standing closed position =
    codes " " ++ state_text closed ++ codes " position " ++ decimal position ++ codes "\n"

abbrev pub first_line : Event → ℕ → Settings → Bool → ℕ → List ℕ
first_line event round settings closed position =
    title event round settings.format ++ standing closed position

-- the second line, its parts spelled as in the command that opens a round
abbrev pub second_line : Settings → List ℕ
second_line settings =
    (codes "cutoff " ++ cutoff_text settings.cutoff)
    ++ (codes " limit " ++ limit_text settings.limit)
    ++ (codes " advance " ++ advance_text settings.advance ++ codes "\n")

-- how wide the columns of results are
abbrev pub columns : Measure → ℕ
columns Time = 9
columns Moves = 9
columns Multi = 11

-- the line of an entrant: place, average and best; a column for each attempt of the format; number,
-- mark and name
abbrev pub results : Measure → ℕ → Averaged → List Value → List ℕ
results unit place average vs =
    right 3 (decimal place) ++ codes " " ++ right (columns unit) (average_text unit average)
    ++ codes " " ++ right (columns unit) (best_text unit vs)

abbrev pub attempts : Measure → ℕ → List Value → List ℕ
attempts unit n vs =
    flat_map (λ k. codes " " ++ right (columns unit) (attempt_text unit vs k)) (range_with_len 0 n)

abbrev pub person : ℕ → Bool → List ℕ → List ℕ
person number marked name =
    codes " " ++ right 4 (decimal number) ++ codes " " ++ mark marked
    ++ (codes " " ++ name ++ codes "\n")

unfoldable pub entrant_line : Measure → Settings → Table → (ℕ → Bool) → ℕ → List ℕ → Entrant
    → List ℕ
entrant_line unit settings t marks number name e =
    results unit (place t e) (average_of t.format t.unit e.values) e.values
    ++ attempts unit (attempts_of settings.format) e.values
    ++ person number (marks number) name

-- the line of the entrant with a number
abbrev pub line_of : Measure → List Command → Settings → Table → (ℕ → Bool) → ℕ → List ℕ
line_of unit cs settings t marks n =
    unwrap_or (option_map (entrant_line unit settings t marks n (name_text cs n)) (entrant t n)) []

abbrev pub text_of_round : List Command → Event → ℕ → ℕ → Settings × Table → List ℕ
text_of_round cs event round position r =
    first_line event round r.0 r.1.is_closed position ++ second_line r.0
    ++ flat_map (line_of (unit_of event) cs r.0 r.1 (is_marked r.1 (seen_of cs event round)))
    (standings r.1)

-- the text, where the round was opened
abbrev pub text_sheet : List Command → Event → ℕ → ℕ → Option (List ℕ)
text_sheet cs event round position =
    option_map (text_of_round cs event round position) (round_of cs event round)

-- ---- the table

abbrev pub yes_or_no : Bool → List ℕ
yes_or_no true = codes "yes"
yes_or_no false = codes "no"

-- the fields of the header
abbrev pub header : ℕ → List (List ℕ)
header n =
    codes "place" ∷ codes "number" ∷ codes "name" ∷ codes "average" ∷ codes "best" ∷ []
    ++ map decimal (range_with_len 1 n)
    ++ codes "advances" ∷ []

-- the average and the best of an entrant
abbrev pub result_fields : Measure → Averaged → List Value → List (List ℕ)
result_fields unit average vs = average_text unit average ∷ best_text unit vs ∷ []

-- the fields of an entrant
abbrev pub entrant_fields : Measure → ℕ → ℕ → ℕ → List ℕ → Averaged → List Value → Bool
    → List (List ℕ)
entrant_fields unit n place number name average vs marked =
    decimal place ∷ decimal number ∷ name ∷ []
    ++ result_fields unit average vs
    ++ map (attempt_text unit vs) (range_with_len 0 n)
    ++ yes_or_no marked ∷ []

-- the record of an entrant, as the CSV writer writes it
unfoldable pub entrant_record : Measure → Settings → Table → (ℕ → Bool) → ℕ → List ℕ → Entrant
    → List ℕ
entrant_record unit settings t marks number name e =
    row_text default_writer (entrant_fields unit (attempts_of settings.format)
    (place t e) number name (average_of t.format t.unit e.values) e.values (marks number))

-- the record of the entrant with a number
abbrev pub record_of : Measure → List Command → Settings → Table → (ℕ → Bool) → ℕ → List ℕ
record_of unit cs settings t marks n =
    unwrap_or (option_map (entrant_record unit settings t marks n (name_text cs n)) (entrant t n))
    []

abbrev pub table_of_round : List Command → Event → ℕ → Settings × Table → List ℕ
table_of_round cs event round r =
    row_text default_writer (header (attempts_of r.0.format))
    ++ flat_map (record_of (unit_of event) cs r.0 r.1 (is_marked r.1 (seen_of cs event round)))
    (standings r.1)

-- the table, where the round was opened
abbrev pub table_sheet : List Command → Event → ℕ → Option (List ℕ)
table_sheet cs event round = option_map (table_of_round cs event round) (round_of cs event round)

-- ---- either

abbrev pub sheet : Style → List Command → Event → ℕ → ℕ → Option (List ℕ)
sheet style.Text cs event round position = text_sheet cs event round position
sheet style.Table cs event round position = table_sheet cs event round
