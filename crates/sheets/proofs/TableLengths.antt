-- How long a sheet is as a table.
use Rattle.std.proofs.Common.{◌≡◌, ℕ, zero, suc, ◌+◌, ◌*◌, ◌≤◌, Bool, true, false, ◌==◌, cond, List}
use Rattle.std.proofs.Common.{[], ◌∷◌, ◌++◌, length, map, flat_map, codes, decimal, Option, Some}
use Rattle.std.proofs.Common.{None, IfSome, count_by, option_map, unwrap_or, refl, arith}
use Rattle.std.proofs.{Common.length-append, lemmas.List.FromFn.length-range_with_len}
use Rattle.std.specs.List.{AllByRecursion, range_with_len}
use Rattle.std.proofs.lemmas.List.Sums.{sum_by-cons, count_by-le-length}
use Rattle.csv.specs.Writing.{default_writer, needs_quotes, escaped, quoted, field_text}
use Rattle.csv.specs.Writing.{fields_text, is_blank, row_text}
use Rattle.attempts.specs.declared.{Unit.Unit as Measure, Value.Value}
use Rattle.formats.specs.declared.{events.Event.Event, results.Averaged.Averaged}
use Rattle.formats.specs.Events.{attempts_of, unit_of}
use Rattle.formats.specs.Results.{average_of, average_text}
use Rattle.rounds.specs.Tables.{Entrant, Table, entrant, place, standings}
use Rattle.texts.specs.declared.command.{Command.Command, Settings.Settings}
use Rattle.commands.specs.Accepted.{name_of, seen_of}
use Rattle.commands.proofs.Sizes.{IsSmall, IsSmallName, IsSmallRound, IsSmallEntrant, standings_few}
use Rattle.sheets.specs.Sheet.{attempt_text, best_text, is_marked, name_text, yes_or_no, header}
use Rattle.sheets.specs.Sheet.{entrant_fields, entrant_record, record_of, table_of_round}
use Rattle.sheets.proofs.ShortTexts.{IsPlain, IsBare, IsSmallValue, plain_decimal, plain_attempt}
use Rattle.sheets.proofs.ShortTexts.{plain_best, plain_average}
use Rattle.sheets.proofs.Lengths.{append_short, each_short, IsShown, shown, place_small}
use Rattle.sheets.proofs.Lengths.{name_given_small, at_most_five}

-- Fields

bare : (text : List ℕ) → AllByRecursion IsBare text → needs_quotes default_writer text ≡ false
bare [] are = refl
bare (b ∷ bytes) are = rw (are.0, bare bytes are.1) refl

field_plain : (most : ℕ) (text : List ℕ) → IsPlain most text
    → length (field_text default_writer text) ≤ most
field_plain most text is = rw (bare text is.unquoted) is.short

-- of each quote mark there is one more
escaped_more : (text : List ℕ)
    → length (escaped default_writer text) ≤ length text + count_by (λ b. b == 34) text
unfolding escaped
escaped_more [] = omega arith
escaped_more (b ∷ bytes) =
    let count = sum_by-cons (λ x. cond (x == 34) 1 0) b bytes in
    step (b == 34) (escaped_more bytes) count
  where
    step : (t : Bool)
        → length (escaped default_writer bytes) ≤ length bytes + count_by (λ x. x == 34) bytes
        → count_by (λ x. x == 34) (b ∷ bytes) ≡ cond t 1 0 + count_by (λ x. x == 34) bytes
        → length (cond t (34 ∷ b ∷ escaped default_writer bytes) (b ∷ escaped default_writer bytes))
        ≤ length (b ∷ bytes) + count_by (λ x. x == 34) (b ∷ bytes)
    step true rest count = omega (arith, rest, count)
    step false rest count = omega (arith, rest, count)

name_short : (name : List ℕ) → IsSmallName name → length (field_text default_writer name) ≤ 162
name_short name small = step (needs_quotes default_writer name)
  where
    step : (b : Bool) → length (cond b (quoted default_writer name) name) ≤ 162
    step true =
        let long = length-append (escaped default_writer name) (34 ∷ []) in
        let more = escaped_more name in
        omega (arith, long, more, small)
    step false = omega (arith, small)

field_short : (text : List ℕ) → length text ≤ 80 → length (field_text default_writer text) ≤ 162
field_short text short =
    let few = count_by-le-length (λ b. b == 34) text in
    name_short text (omega (arith, few, short))

-- one more field, behind a comma
fields_short : (a b : ℕ) (field : List ℕ) (rest : List (List ℕ))
    → length (field_text default_writer field) ≤ a → length (fields_text default_writer rest) ≤ b
    → length (fields_text default_writer (field ∷ rest)) ≤ 1 + a + b
unfolding fields_text
fields_short a b field rest first later = let long =
    length-append (field_text default_writer field) (fields_text default_writer rest) in
    omega (arith, long, first, later)

-- what ends a row, behind two quote marks or none
abbrev row_end : Bool → List ℕ
row_end b = cond b (34 ∷ 34 ∷ []) [] ++ 10 ∷ []

end_short : (b : Bool) → length (row_end b) ≤ 3
end_short true = omega arith
end_short false = omega arith

row_short : (a b : ℕ) (field : List ℕ) (rest : List (List ℕ))
    → length (field_text default_writer field) ≤ a → length (fields_text default_writer rest) ≤ b
    → length (row_text default_writer (field ∷ rest)) ≤ a + b + 3
row_short a b field rest first later =
    append_short (a + b) 3 (field_text default_writer field ++ fields_text default_writer rest)
    (row_end (is_blank default_writer (field ∷ rest)))
    (append_short a b (field_text default_writer field)
    (fields_text default_writer rest) first later)
    (end_short (is_blank default_writer (field ∷ rest)))

-- Records

answer_plain : (marked : Bool) → IsPlain 3 (yes_or_no marked)
answer_plain true = record { short = omega arith; unquoted = (refl, (refl, (refl, tt))) }
answer_plain false = record { short = omega arith; unquoted = (refl, (refl, tt)) }

none_left : length (fields_text default_writer []) ≤ 0
unfolding fields_text
none_left = omega arith

abbrev IsColumn : (ℕ → List ℕ) → ℕ → Type 0
IsColumn f k = IsPlain 15 (f k)

-- a column for each of some numbers, and the last one
columns_short : (f : ℕ → List ℕ) (last : List ℕ) (most : ℕ)
    → length (field_text default_writer last) ≤ most → (ks : List ℕ)
    → AllByRecursion (IsColumn f) ks
    → length (fields_text default_writer (map f ks ++ last ∷ [])) ≤ 16 * length ks + (1 + most)
columns_short f last most is [] are = let one =
    fields_short most 0 last [] is none_left in omega (arith, one)
columns_short f last most is (k ∷ ks) are =
    let rest = columns_short f last most is ks are.1 in
    let more =
    fields_short 15 (16 * length ks + (1 + most)) (f k) (map f ks ++ last ∷ [])
    (field_plain 15 (f k) are.0) rest in
    omega (arith, more)

each_column : (f : ℕ → List ℕ) → ((k : ℕ) → IsPlain 15 (f k)) → (ks : List ℕ)
    → AllByRecursion (IsColumn f) ks
each_column f each [] = tt
each_column f each (k ∷ ks) = (each k, each_column f each ks)

numbered_columns : (a n : ℕ) → a + n ≤ 10 → AllByRecursion (IsColumn decimal) (range_with_len a n)
numbered_columns a zero few = tt
numbered_columns a (suc n) few = (
  plain_decimal 15 a (omega arith) (omega arith) (omega arith),
  numbered_columns (a + 1) n (omega arith),
)

fields_of_short : (unit : Measure) (n at number : ℕ) (name : List ℕ) (average : Averaged)
    (vs : List Value) (marked : Bool) → n ≤ 5 → at ≤ 1000 → number ≤ 9999 → IsSmallName name
    → IsPlain 15 (average_text unit average) → AllByRecursion IsSmallValue vs
    → length (row_text default_writer (entrant_fields unit n at number name average vs marked))
    ≤ 291
fields_of_short unit n at number name average vs marked columns low small short is are =
    let all =
    columns_short (attempt_text unit vs) (yes_or_no marked) 3 (field_plain 3 (yes_or_no marked)
    (answer_plain marked)) (range_with_len 0 n) (each_column (attempt_text unit vs)
    (plain_attempt unit vs are) (range_with_len 0 n)) in
    let count = length-range_with_len 0 n in
    let last : length (fields_text default_writer (map (attempt_text unit vs) (range_with_len 0 n)
    ++ yes_or_no marked ∷ [])) ≤ 84 = omega (arith, all, count, columns) in
    row_short 4 284 (decimal at) _ (field_plain 4 (decimal at) (plain_decimal 4 at (omega arith)
    (omega arith) (omega arith)))
    (fields_short 4 279 (decimal number) _ (field_plain 4 (decimal number)
    (plain_decimal 4 number (omega arith) (omega arith) (omega arith)))
    (fields_short 162 116 name _ (name_short name short)
    (fields_short 15 100 (average_text unit average) _
    (field_plain 15 (average_text unit average) is)
    (fields_short 15 84 (best_text unit vs) _ (field_plain 15 (best_text unit vs)
    (plain_best unit vs are)) last))))

record_short : (unit : Measure) (settings : Settings) (t : Table) (marks : ℕ → Bool) (number : ℕ)
    (name : List ℕ) (e : Entrant) → length t.entrants ≤ 999 → IsSmallName name → IsShown number e
    → length (entrant_record unit settings t marks number name e) ≤ 291
unfolding entrant_record
record_short unit settings t marks number name e few short is =
    fields_of_short unit (attempts_of settings.format) (place t e) number name
    (average_of t.format t.unit e.values) e.values (marks number)
    (at_most_five settings.format) (place_small t few e) is.number short
    (plain_average unit t.format t.unit e.values is.parts.values) is.parts.values

record_of_short : (unit : Measure) (cs : List Command) (settings : Settings) (t : Table)
    (marks : ℕ → Bool) → IsSmall cs → length t.entrants ≤ 999
    → AllByRecursion IsSmallEntrant t.entrants → (n : ℕ)
    → length (record_of unit cs settings t marks n) ≤ 291
record_of_short unit cs settings t marks small few are n = step (entrant t n) (shown t are n)
  where
    step : (o : Option Entrant) → IfSome o (IsShown n) → length
        (unwrap_or (option_map (entrant_record unit settings t marks n (name_text cs n)) o) [])
        ≤ 291
    step None is = omega arith
    step (Some e) is =
        record_short unit settings t marks n (name_text cs n) e few
        (name_given_small (name_of cs n) (small.names n)) is

header_short : (n : ℕ) → n ≤ 5 → length (row_text default_writer (header n)) ≤ 1060
header_short n few =
    let all =
    columns_short decimal (codes "advances") 162 (field_short (codes "advances") (omega arith))
    (range_with_len 1 n) (numbered_columns 1 n (omega arith)) in
    let count = length-range_with_len 1 n in
    let last : length (fields_text default_writer (map decimal (range_with_len 1 n)
    ++ codes "advances" ∷ [])) ≤ 243 = omega (arith, all, count, few) in
    row_short 162 895 (codes "place") _ (field_short (codes "place") (omega arith))
    (fields_short 162 732 (codes "number") _ (field_short (codes "number") (omega arith))
    (fields_short 162 569 (codes "name") _ (field_short (codes "name") (omega arith))
    (fields_short 162 406 (codes "average") _ (field_short (codes "average") (omega arith))
    (fields_short 162 243 (codes "best") _ (field_short (codes "best") (omega arith)) last))))

-- the table of a round
pub table_short : (cs : List Command) (event : Event) (round : ℕ) (r : Settings × Table)
    → IsSmall cs → IsSmallRound round r → length (table_of_round cs event round r) ≤ 299992
table_short cs event round r small is =
    let marks : ℕ → Bool = is_marked r.1 (seen_of cs event round) in
    let records =
    each_short 291 (record_of (unit_of event) cs r.0 r.1 marks)
    (record_of_short (unit_of event) cs r.0 r.1 marks small is.few is.entrants) (standings r.1) in
    let count = standings_few r.1 in
    let few = is.few in
    let whole =
    append_short 1060 290709 (row_text default_writer (header (attempts_of r.0.format)))
    (flat_map (record_of (unit_of event) cs r.0 r.1 marks) (standings r.1))
    (header_short (attempts_of r.0.format) (at_most_five r.0.format)) (omega (
      arith,
      records,
      count,
      few,
    )) in
    omega (arith, whole)
