-- How long a sheet is as text.
use Rattle.std.proofs.Common.{ℕ, ◌^◌, ◌<◌, ◌≤◌, Bool, true, false, List, [], ◌++◌, length, flat_map}
use Rattle.std.proofs.Common.{codes, decimal, Option, Some, None, IfSome, option_map, unwrap_or}
use Rattle.std.{proofs.Common.arith, specs.List.AllByRecursion, specs.List.range_with_len}
use Rattle.std.proofs.lemmas.{Fmt.length-decimal-le, List.FromFn.length-range_with_len}
use Rattle.attempts.specs.declared.{Unit.Unit as Measure, Unit.TheVariants.Time, Value.Value}
use Rattle.formats.specs.declared.{events.Event.Event, results.Averaged.Averaged}
use Rattle.formats.specs.{declared.events.Format.Format, Results.average_of, Results.average_text}
use Rattle.formats.specs.Events.{event_name, format_name, attempts_of, unit_of}
use Rattle.rounds.specs.Tables.{Entrant, Table, entrant, place, standings}
use Rattle.texts.specs.declared.command.{Command.Command, Settings.Settings}
use Rattle.commands.specs.Accepted.{name_of, seen_of}
use Rattle.texts.specs.Spelling.{IsFitSettings, cutoff_text, limit_text, advance_text}
use Rattle.texts.proofs.FieldSpellings.{event_short, format_short, cutoff_short, limit_short}
use Rattle.texts.proofs.FieldSpellings.{advance_short}
use Rattle.commands.proofs.Sizes.{IsSmall, IsSmallRound, IsSmallEntrant, standings_few}
use Rattle.sheets.specs.Sheet.{state_text, right, columns, mark, title, standing, first_line}
use Rattle.sheets.specs.Sheet.{second_line, results, attempts, person, attempt_text, best_text}
use Rattle.sheets.specs.Sheet.{is_marked, name_text, entrant_line, line_of, text_of_round}
use Rattle.sheets.proofs.ShortTexts.{IsPlain, IsSmallValue, plain_attempt, plain_best}
use Rattle.sheets.proofs.ShortTexts.{plain_average}
use Rattle.sheets.proofs.Lengths.{append_short, right_short, each_short, IsShown, shown}
use Rattle.sheets.proofs.Lengths.{place_small, name_given_short, at_most_five}

state_short : (closed : Bool) → length (state_text closed) ≤ 6
state_short true = omega arith
state_short false = omega arith

mark_short : (marked : Bool) → length (mark marked) ≤ 1
mark_short true = omega arith
mark_short false = omega arith

title_short : (event : Event) (round : ℕ) (format : Format) → round ≤ 4
    → length (title event round format) ≤ 169
title_short event round format last =
    append_short 89 80 (event_name event ++ codes " round " ++ decimal round ++ codes " ")
    (format_name format)
    (append_short 88 1 (event_name event ++ codes " round " ++ decimal round) (codes " ")
    (append_short 87 1 (event_name event ++ codes " round ") (decimal round)
    (append_short 80 7 (event_name event) (codes " round ") (event_short event) (omega arith))
    (length-decimal-le 1 round (omega arith) (omega arith) (omega arith))) (omega arith))
    (format_short format)

standing_short : (closed : Bool) (position : ℕ) → position < 2 ^ 32
    → length (standing closed position) ≤ 28
standing_short closed position fits =
    append_short 27 1 (codes " " ++ state_text closed ++ codes " position "
    ++ decimal position) (codes "\n")
    (append_short 17 10 (codes " " ++ state_text closed ++ codes " position ") (decimal position)
    (append_short 7 10 (codes " " ++ state_text closed) (codes " position ")
    (append_short 1 6 (codes " ") (state_text closed) (omega arith) (state_short closed))
    (omega arith)) (length-decimal-le 10 position (omega arith) (omega arith) (omega arith)))
    (omega arith)

second_short : (settings : Settings) → IsFitSettings settings → length (second_line settings) ≤ 264
second_short settings fits =
    append_short 174 90 ((codes "cutoff " ++ cutoff_text settings.cutoff)
    ++ (codes " limit " ++ limit_text settings.limit)) (codes " advance "
    ++ advance_text settings.advance ++ codes "\n")
    (append_short 87 87 (codes "cutoff " ++ cutoff_text settings.cutoff) (codes " limit "
    ++ limit_text settings.limit)
    (append_short 7 80 (codes "cutoff ") (cutoff_text settings.cutoff) (omega arith)
    (cutoff_short settings.cutoff fits.0))
    (append_short 7 80 (codes " limit ") (limit_text settings.limit) (omega arith)
    (limit_short settings.limit fits.1)))
    (append_short 89 1 (codes " advance " ++ advance_text settings.advance) (codes "\n")
    (append_short 9 80 (codes " advance ") (advance_text settings.advance) (omega arith)
    (advance_short settings.advance fits.2)) (omega arith))

narrow : (unit : Measure) → columns unit ≤ 15
narrow Time = omega arith
narrow _ = omega arith

results_short : (unit : Measure) (at : ℕ) (average : Averaged) (vs : List Value) → at ≤ 1000
    → IsPlain 15 (average_text unit average) → IsPlain 15 (best_text unit vs)
    → length (results unit at average vs) ≤ 36
results_short unit at average vs low is best =
    append_short 21 15 (right 3 (decimal at) ++ codes " "
    ++ right (columns unit) (average_text unit average) ++ codes " ")
    (right (columns unit) (best_text unit vs)) (append_short 20 1 (right 3 (decimal at) ++ codes " "
    ++ right (columns unit) (average_text unit average)) (codes " ")
    (append_short 5 15 (right 3 (decimal at) ++ codes " ")
    (right (columns unit) (average_text unit average))
    (append_short 4 1 (right 3 (decimal at)) (codes " ") (right_short 3 4 (decimal at) (omega arith)
    (length-decimal-le 4 at (omega arith) (omega arith) (omega arith))) (omega arith))
    (right_short (columns unit) 15 (average_text unit average) (narrow unit) is.short))
    (omega arith)) (right_short (columns unit) 15 (best_text unit vs) (narrow unit) best.short)

attempts_short : (unit : Measure) (format : Format) (vs : List Value)
    → AllByRecursion IsSmallValue vs → length (attempts unit (attempts_of format) vs) ≤ 80
attempts_short unit format vs are =
    let all = each_short 16 (λ k. codes " " ++ right (columns unit) (attempt_text unit vs k))
    (λ k. append_short 1 15 (codes " ") (right (columns unit) (attempt_text unit vs k))
    (omega arith) (right_short (columns unit) 15 (attempt_text unit vs k) (narrow unit)
    (plain_attempt unit vs are k).short)) (range_with_len 0 (attempts_of format)) in
    let count = length-range_with_len 0 (attempts_of format) in
    let few = at_most_five format in
    omega (arith, all, count, few)

person_short : (number : ℕ) (marked : Bool) (name : List ℕ) → number ≤ 9999 → length name ≤ 160
    → length (person number marked name) ≤ 169
person_short number marked name low short =
    append_short 7 162 (codes " " ++ right 4 (decimal number) ++ codes " " ++ mark marked)
    (codes " "
    ++ name ++ codes "\n")
    (append_short 6 1 (codes " " ++ right 4 (decimal number) ++ codes " ") (mark marked)
    (append_short 5 1 (codes " " ++ right 4 (decimal number)) (codes " ")
    (append_short 1 4 (codes " ") (right 4 (decimal number)) (omega arith)
    (right_short 4 4 (decimal number) (omega arith) (length-decimal-le 4 number (omega arith)
    (omega arith) (omega arith)))) (omega arith)) (mark_short marked))
    (append_short 161 1 (codes " " ++ name) (codes "\n") (append_short 1 160 (codes " ") name
    (omega arith) short) (omega arith))

entrant_line_short : (unit : Measure) (settings : Settings) (t : Table) (marks : ℕ → Bool)
    (number : ℕ) (name : List ℕ) (e : Entrant) → length t.entrants ≤ 999 → length name ≤ 160
    → IsShown number e → length (entrant_line unit settings t marks number name e) ≤ 285
unfolding entrant_line
entrant_line_short unit settings t marks number name e few short is =
    append_short 116 169 (results unit (place t e) (average_of t.format t.unit e.values) e.values
    ++ attempts unit (attempts_of settings.format) e.values) (person number (marks number) name)
    (append_short 36 80 (results unit (place t e) (average_of t.format t.unit e.values) e.values)
    (attempts unit (attempts_of settings.format) e.values)
    (results_short unit (place t e) (average_of t.format t.unit e.values) e.values
    (place_small t few e) (plain_average unit t.format t.unit e.values is.parts.values)
    (plain_best unit e.values is.parts.values))
    (attempts_short unit settings.format e.values is.parts.values))
    (person_short number (marks number) name is.number short)

line_short : (unit : Measure) (cs : List Command) (settings : Settings) (t : Table)
    (marks : ℕ → Bool) → IsSmall cs → length t.entrants ≤ 999
    → AllByRecursion IsSmallEntrant t.entrants → (n : ℕ)
    → length (line_of unit cs settings t marks n) ≤ 285
line_short unit cs settings t marks small few are n = step (entrant t n) (shown t are n)
  where
    step : (o : Option Entrant) → IfSome o (IsShown n) → length
        (unwrap_or (option_map (entrant_line unit settings t marks n (name_text cs n)) o) []) ≤ 285
    step None is = omega arith
    step (Some e) is =
        entrant_line_short unit settings t marks n (name_text cs n) e few
        (name_given_short (name_of cs n) (small.names n)) is

-- the text of a round
pub text_short : (cs : List Command) (event : Event) (round position : ℕ) (r : Settings × Table)
    → IsSmall cs → IsSmallRound round r → position < 2 ^ 32
    → length (text_of_round cs event round position r) ≤ 299992
text_short cs event round position r small is fits =
    let marks : ℕ → Bool = is_marked r.1 (seen_of cs event round) in
    let lines =
    each_short 285 (line_of (unit_of event) cs r.0 r.1 marks)
    (line_short (unit_of event) cs r.0 r.1 marks small is.few is.entrants) (standings r.1) in
    let count = standings_few r.1 in
    let few = is.few in
    let top =
    append_short 197 264 (first_line event round r.0 r.1.is_closed position) (second_line r.0)
    (append_short 169 28 (title event round r.0.format) (standing r.1.is_closed position)
    (title_short event round r.0.format is.last) (standing_short r.1.is_closed position fits))
    (second_short r.0 is.settings) in
    let whole =
    append_short 461 284715 (first_line event round r.0 r.1.is_closed position
    ++ second_line r.0) (flat_map (line_of (unit_of event) cs r.0 r.1 marks) (standings r.1)) top
    (omega (arith, lines, count, few)) in
    omega (arith, whole)
