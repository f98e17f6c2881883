-- The fields of commands, as `Spelling` spells them (the project's own). Each is read from its
-- bytes, or is misspelt.
use Rattle.std.specs.Prelude.{ℕ, ◌+◌, ◌==◌, if◌then◌else◌, List, [], ◌∷◌, map, flat_map, find}
use Rattle.std.specs.Prelude.{length, nat_le, take, drop, position, bytes_eq, codes, decimal}
use Rattle.std.specs.Prelude.{Option, Some, None, Bool, is_some}
use Rattle.std.specs.{List.list_all, List.slice_split, Option.option_and_then, Option.option_map}
use Rattle.cube.specs.declared.moves.Side.TheVariants.{U, R, F, D, L, B}
use Rattle.cube.specs.declared.moves.Axis.TheVariants.{X, Y, Z}
use Rattle.cube.specs.declared.moves.{Kind.Kind, Quarter.Quarter, Move.Move}
use Rattle.cube.specs.declared.moves.Kind.TheVariants.{Face, Block, Turn}
use Rattle.cube.specs.declared.moves.Quarter.TheVariants.{Clockwise, Half, Anticlockwise}
use Rattle.cube.specs.notation.Tokens.{token}
use Rattle.formats.specs.declared.{advance.Advance.Advance, events.Event.Event}
use Rattle.formats.specs.declared.advance.Advance.TheVariants.{Final, Top, Percent}
use Rattle.attempts.specs.declared.Value.{Value}
use Rattle.texts.specs.declared.command.{RoundId.RoundId, CardEntry.CardEntry, Entered.Entered}
use Rattle.texts.specs.{declared.command.AttemptEntry.AttemptEntry, Names.is_name, Names.is_name_in}
use Rattle.texts.specs.Numerals.{digits_value, within}
use Rattle.attempts.specs.declared.Value.TheVariants as value
use Rattle.texts.specs.declared.command.Entered.TheVariants as entered

-- What is before the first of a byte, and what is after it, where it is there.
abbrev pub cut_at : List ℕ → Option ℕ → List ℕ × Option (List ℕ)
cut_at bytes None = (bytes, None)
cut_at bytes (Some i) = (take i bytes, Some (drop (i + 1) bytes))

unfoldable pub cut : ℕ → List ℕ → List ℕ × Option (List ℕ)
cut by bytes = cut_at bytes (position (λ b. b == by) bytes)

-- a number in a range, as it is printed in decimal
unfoldable pub number_between : ℕ → ℕ → List ℕ → Option ℕ
number_between low high bytes =
    if bytes_eq bytes (decimal (digits_value bytes)) then within low high (digits_value bytes)
    else None

-- a name that some edition spells
unfoldable pub name_of : List ℕ → Option (List ℕ)
name_of bytes = if is_name bytes then Some bytes else None

-- a name that edition 3 spells
unfoldable pub new_name_of : List ℕ → Option (List ℕ)
new_name_of bytes = if is_name_in 3 bytes then Some bytes else None

-- two numbers, each read in its way
abbrev pub pair_with : ℕ → ℕ → ℕ × ℕ
pair_with a b = (a, b)

abbrev pub second_number : (List ℕ → Option ℕ) → ℕ → Option (List ℕ) → Option (ℕ × ℕ)
second_number of a None = None
second_number of a (Some bytes) = option_map (pair_with a) (of bytes)

abbrev pub two_numbers : (List ℕ → Option ℕ) → (List ℕ → Option ℕ) → List ℕ × Option (List ℕ)
    → Option (ℕ × ℕ)
two_numbers first second parts =
    option_and_then (λ a. second_number second a parts.1) (first parts.0)

-- `-`, or attempts and what is to be below, with a colon between
abbrev pub cutoff_of : List ℕ → Option (Option (ℕ × ℕ))
cutoff_of bytes =
    if bytes_eq bytes (codes "-") then Some None
    else option_map Some (two_numbers (number_between 1 4) (number_between 1 360000) (cut 58 bytes))

abbrev pub limit_of : List ℕ → Option (Option ℕ)
limit_of bytes =
    if bytes_eq bytes (codes "-") then Some None
    else option_map Some (number_between 1 360000 bytes)

abbrev pub percent_of : List ℕ → Option Advance
percent_of bytes =
    if bytes_eq (take 4 bytes) (codes "pct:")
    then option_map Percent (number_between 1 75 (drop 4 bytes)) else None

abbrev pub advance_of : List ℕ → Option Advance
advance_of bytes =
    if bytes_eq bytes (codes "final") then Some Final
    else if bytes_eq (take 4 bytes) (codes "top:")
    then option_map Top (number_between 1 999 (drop 4 bytes))
    else percent_of bytes

abbrev pub kinds : List Kind
kinds =
    Face U ∷ Face R ∷ Face F ∷ Face D ∷ Face L ∷ Face B
    ∷ Block U ∷ Block R ∷ Block F ∷ Block D ∷ Block L ∷ Block B ∷ Turn X ∷ Turn Y ∷ Turn Z ∷ []

abbrev pub quarters : List Quarter
quarters = Clockwise ∷ Half ∷ Anticlockwise ∷ []

abbrev pub move_by : Kind → Quarter → Move
move_by kind quarter = record { kind = kind; quarter = quarter }

abbrev pub every_move : List Move
every_move = flat_map (λ kind. map (move_by kind) quarters) kinds

-- the move of a token
unfoldable pub move_of : List ℕ → Option Move
move_of bytes = find (λ move. bytes_eq (token move) bytes) every_move

-- what all of these are, where each is there
abbrev pub all_of : {A : Type 0} → List (Option A) → Option (List A)
all_of [] = Some []
all_of (o ∷ os) = option_and_then (λ x. option_map (λ xs. x ∷ xs) (all_of os)) o

abbrev pub at_most_400 : List Move → Option (List Move)
at_most_400 moves = if nat_le (length moves) 400 then Some moves else None

-- moves in notation with exactly one space between tokens: each part between spaces is a token
unfoldable pub moves_of : List ℕ → Option (List Move)
moves_of bytes =
    option_and_then at_most_400 (all_of (map move_of (slice_split (λ b. b == 32) bytes)))

abbrev pub time_with : ℕ × ℕ → Entered
time_with time = entered.Time time.0 time.1

abbrev pub time_of : List ℕ × Option (List ℕ) → Option Entered
time_of parts =
    option_map time_with (two_numbers (number_between 1 999999) (number_between 0 9) parts)

-- solved cubes of this many in this many seconds, where they are no more than these
abbrev pub multi_with : ℕ → ℕ × ℕ → Option Entered
multi_with solved rest =
    if nat_le solved rest.0 then Some (entered.Multi solved rest.0 rest.1) else None

abbrev pub attempted_of : ℕ → Option (List ℕ) → Option Entered
attempted_of solved None = None
attempted_of solved (Some bytes) =
    option_and_then (multi_with solved)
    (two_numbers (number_between 2 99) (number_between 1 5999) (cut 58 bytes))

-- three numbers with a colon between each two: cubes solved, cubes attempted, and seconds
abbrev pub multi_of : List ℕ × Option (List ℕ) → Option Entered
multi_of parts =
    option_and_then (λ solved. attempted_of solved parts.1) (number_between 0 99 parts.0)

abbrev pub cubes_of : List ℕ → Option Entered
cubes_of bytes =
    if bytes_eq (take 2 bytes) (codes "M:") then multi_of (cut 58 (drop 2 bytes)) else None

unfoldable pub entered_of : List ℕ → Option Entered
entered_of bytes =
    if bytes_eq bytes (codes "DNF") then Some entered.Dnf
    else if bytes_eq bytes (codes "DNS") then Some entered.Dns
    else if bytes_eq (take 2 bytes) (codes "T:") then time_of (cut 58 (drop 2 bytes))
    else if bytes_eq (take 2 bytes) (codes "S:")
    then option_map entered.Solution (moves_of (drop 2 bytes))
    else cubes_of bytes

-- a round of an event, and what was entered for an attempt of it
abbrev pub round_id : Event → ℕ → RoundId
round_id event round = record { event = event; round = round }

abbrev pub attempt_entry : RoundId → ℕ → ℕ → Entered → AttemptEntry
attempt_entry id attempt number outcome =
    record { id = id; attempt = attempt; number = number; outcome = outcome }

abbrev pub IsSolution : Entered → Type 0
IsSolution (entered.Solution moves) = Unit {0}
IsSolution _ = ⊥

-- Scorecards.

-- what an attempt counts: a number, or no result
abbrev pub counted_of : List ℕ → Option Value
counted_of bytes =
    if bytes_eq bytes (codes "DNF") then Some value.Dnf
    else if bytes_eq bytes (codes "DNS") then Some value.Dns
    else option_map value.Number (number_between 0 990599949 bytes)

-- at most five
abbrev pub at_most_5 : {A : Type 0} → List A → Option (List A)
at_most_5 xs = if nat_le (length xs) 5 then Some xs else None

-- what the attempts count, with a comma between two of them, or `-` for none
unfoldable pub was_of : List ℕ → Option (List Value)
was_of bytes =
    if bytes_eq bytes (codes "-") then Some []
    else option_and_then at_most_5 (all_of (map counted_of (slice_split (λ b. b == 44) bytes)))

-- what is entered for an attempt, or `=` where it stays as it is
abbrev pub stays_or_of : List ℕ → Option (Option Entered)
stays_or_of bytes =
    if bytes_eq bytes (codes "=") then Some None else option_map Some (entered_of bytes)

-- where this many attempts count, something is entered for each later one
abbrev pub enters_later : ℕ → List (Option Entered) → Bool
enters_later stands now = list_all is_some (drop stands now)

-- at most five, of which those that stay are among this many that count
abbrev pub over : ℕ → List (Option Entered) → Option (List (Option Entered))
over stands now = if enters_later stands now then at_most_5 now else None

-- the attempts that are to count, with a slash between two of them, or `-` for none; those that
-- stay are among this many that count
unfoldable pub now_of : ℕ → List ℕ → Option (List (Option Entered))
now_of stands bytes =
    if bytes_eq bytes (codes "-") then Some []
    else option_and_then (over stands)
    (all_of (map stays_or_of (slice_split (λ b. b == 47) bytes)))

abbrev pub card_entry : RoundId → ℕ → List Value → List (Option Entered) → CardEntry
card_entry id number was now = record { id = id; number = number; was = was; now = now }

-- Remarks.

-- what is before the first ` # `, and what is after it, where it is there
abbrev pub cut_remark : List ℕ → List ℕ × Option (List ℕ)
cut_remark [] = ([], None)
cut_remark (b ∷ bs) =
    if bytes_eq (take 3 (b ∷ bs)) (codes " # ") then ([], Some (drop 3 (b ∷ bs)))
    else (b ∷ (cut_remark bs).0, (cut_remark bs).1)
