-- What is read of a scorecard, or what is wrong with it: the first fault in the order of these
-- definitions (the project's own). Which text spells which outcome is in `Spelling`, apart from
-- this.
use Rattle.std.specs.Prelude.{◌≡◌, ◌⊎◌, ℕ, ◌+◌, ◌-◌, ◌*◌, ◌/◌, ◌%◌, ◌==◌, ◌&&◌, ◌||◌, nat_le}
use Rattle.std.specs.Prelude.{if◌then◌else◌, List, length, take, slice_index, codes, bytes_eq}
use Rattle.std.specs.Prelude.{Option, Some, None, Result, Ok, Err}
use Rattle.std.specs.{Char.is_ascii_digit, Bool.MatchBool, List.list_all}
use Rattle.cube.specs.declared.moves.Move.{Move}
use Rattle.texts.specs.{Numerals.digits_value, declared.command.Entered.Entered}
use Rattle.texts.specs.Fields.{cut, number_between}
use Rattle.attempts.specs.declared.Unit.{Unit as Measure}
use Rattle.attempts.specs.declared.Unit.TheVariants.{Time, Moves, Multi}
use Rattle.scorecard.specs.declared.fault.ScorecardFault.{ScorecardFault}
use Rattle.scorecard.specs.Spelling.{is_among, points, colons, is_dnf, is_dns, trimmed, IsSolution}
use Rattle.texts.specs.declared.command.Entered.TheVariants as entered
use Rattle.scorecard.specs.declared.fault.ScorecardFault.TheVariants as fault

infixl 10 ◌>>=◌
abbrev pub ◌>>=◌ : {A B : Type 0} → Result A ScorecardFault → (A → Result B ScorecardFault)
    → Result B ScorecardFault
(Ok x) >>= f = f x
(Err e) >>= f = Err e

-- ---- digits

-- the number of one to this many digits
unfoldable pub number_of : ℕ → List ℕ → Option ℕ
number_of most bytes =
    if nat_le 1 (length bytes) && nat_le (length bytes) most && list_all is_ascii_digit bytes
    then Some (digits_value bytes) else None

-- the byte at this many before the end
abbrev pub last_but : ℕ → List ℕ → ℕ
last_but k bytes = slice_index bytes (length bytes - k)

-- the number of the two digits that follow a mark at the end, and what is before the mark
unfoldable pub pair_of : List ℕ → List ℕ → Option (List ℕ × ℕ)
pair_of marks bytes =
    if nat_le 3 (length bytes) && is_among marks (last_but 3 bytes)
    && is_ascii_digit (last_but 2 bytes) && is_ascii_digit (last_but 1 bytes)
    then Some (
      take (length bytes - 3) bytes,
      10 * (last_but 2 bytes - 48) + (last_but 1 bytes - 48),
    )
    else None

-- ---- times

-- a number whose digits fill a clock from the right
abbrev pub filled : Option ℕ → Result ℕ ScorecardFault
filled None = Err fault.NotATime
filled (Some number) =
    if nat_le 10000 number && nat_le 6000 (number % 10000) then Err fault.BadSeconds
    else Ok (6000 * (number / 10000) + number % 10000)

-- seconds alone, with hundredths
abbrev pub seconds_with : ℕ → Option ℕ → Result ℕ ScorecardFault
seconds_with hundredths None = Err fault.NotATime
seconds_with hundredths (Some seconds) = Ok (100 * seconds + hundredths)

-- minutes, with seconds and hundredths
abbrev pub minutes_with : ℕ → ℕ → Option ℕ → Result ℕ ScorecardFault
minutes_with hundredths seconds None = Err fault.NotATime
minutes_with hundredths seconds (Some minutes) =
    if nat_le 60 seconds then Err fault.BadSeconds
    else Ok (6000 * minutes + 100 * seconds + hundredths)

-- what is before a point and hundredths: seconds, or minutes and seconds
abbrev pub before_point : ℕ → List ℕ → Option (List ℕ × ℕ) → Result ℕ ScorecardFault
before_point hundredths front None = seconds_with hundredths (number_of 2 front)
before_point hundredths front (Some split) =
    minutes_with hundredths split.1 (number_of 3 split.0)

abbrev pub clock_with : List ℕ → Option (List ℕ × ℕ) → Result ℕ ScorecardFault
clock_with bytes None = filled (number_of 7 bytes)
clock_with bytes (Some split) = before_point split.1 split.0 (pair_of colons split.0)

-- the hundredths of a time, of whatever length
unfoldable pub clock_of : List ℕ → Result ℕ ScorecardFault
clock_of bytes = clock_with bytes (pair_of points bytes)

-- a time that may be entered
abbrev pub within_limits : ℕ → Result ℕ ScorecardFault
within_limits time =
    if nat_le 1 time && nat_le time 999999 then Ok time else Err fault.OutOfRange

unfoldable pub time_of : List ℕ → Result ℕ ScorecardFault
time_of bytes = do
  time ← clock_of bytes
  within_limits time

-- the penalties of this many seconds, two for each
abbrev pub halved : Option ℕ → Result ℕ ScorecardFault
halved None = Err fault.BadPenalty
halved (Some seconds) =
    if seconds % 2 == 0 then Ok (seconds / 2) else Err fault.BadPenalty

-- the penalties that are marked after the first plus
abbrev pub penalties_of : Option (List ℕ) → Result ℕ ScorecardFault
penalties_of None = Ok 0
penalties_of (Some mark) =
    if bytes_eq mark (codes "") then Ok 1
    else if bytes_eq mark (codes "+") then Ok 2
    else halved (number_between 2 18 mark)

-- a time and its penalties
unfoldable pub timed_of : List ℕ → Result Entered ScorecardFault
timed_of bytes = do
  penalties ← penalties_of (cut 43 bytes).1
  time ← time_of (cut 43 bytes).0
  Ok (entered.Time time penalties)

-- ---- results of multi-blind

-- a number whose digits fill a clock of minutes and seconds from the right
abbrev pub filled_seconds : Option ℕ → Result ℕ ScorecardFault
filled_seconds None = Err fault.NotAResult
filled_seconds (Some number) =
    if nat_le 100 number && nat_le 60 (number % 100) then Err fault.BadSeconds
    else Ok (60 * (number / 100) + number % 100)

abbrev pub seconds_after : ℕ → Option ℕ → Result ℕ ScorecardFault
seconds_after seconds None = Err fault.NotAResult
seconds_after seconds (Some minutes) =
    if nat_le 60 seconds then Err fault.BadSeconds else Ok (60 * minutes + seconds)

abbrev pub whole_seconds_with : List ℕ → Option (List ℕ × ℕ) → Result ℕ ScorecardFault
whole_seconds_with bytes None = filled_seconds (number_of 4 bytes)
whole_seconds_with bytes (Some split) = seconds_after split.1 (number_of 2 split.0)

-- the seconds of a time, of whatever length
unfoldable pub whole_seconds_of : List ℕ → Result ℕ ScorecardFault
whole_seconds_of bytes = whole_seconds_with bytes (pair_of (codes ":") bytes)

abbrev pub or_fault : {A : Type 0} → ScorecardFault → Option A → Result A ScorecardFault
or_fault fault None = Err fault
or_fault fault (Some x) = Ok x

-- cubes solved of those attempted
abbrev pub solved_of : ℕ → ℕ → Result (ℕ × ℕ) ScorecardFault
solved_of solved attempted =
    if nat_le solved attempted then Ok (solved, attempted) else Err (fault.MoreSolved attempted)

abbrev pub some_seconds : ℕ → Result ℕ ScorecardFault
some_seconds seconds = if nat_le 1 seconds then Ok seconds else Err fault.NoSeconds

-- a result, cut at its slash and at the first space after it
unfoldable pub multi_of : List ℕ → Result Entered ScorecardFault
multi_of bytes = do
  solved ← or_fault fault.NotAResult (number_between 0 99 (cut 47 bytes).0)
  rest ← or_fault fault.NotAResult (cut 47 bytes).1
  attempted ← or_fault fault.BadAttempted (number_between 2 99 (cut 32 rest).0)
  cubes ← solved_of solved attempted
  clock ← or_fault fault.NotAResult (cut 32 rest).1
  time ← whole_seconds_of clock
  seconds ← some_seconds time
  Ok (entered.Multi cubes.0 cubes.1 seconds)

-- ---- fields

-- a solution is read where the text spells one, and memory may run out
abbrev pub ReadsSolution : List ℕ → Result Entered ScorecardFault → Type 0
ReadsSolution text (Ok (entered.Solution moves)) = IsSolution text moves
ReadsSolution text (Err fault.NotMoves) = (moves : List Move) → IsSolution text moves → ⊥
ReadsSolution text (Err fault.NoMemory) = Unit {0}
ReadsSolution _ _ = ⊥

-- what is read of a text that is neither empty nor a word of no result
abbrev pub ReadsResult : Measure → List ℕ → Result Entered ScorecardFault → Type 0
ReadsResult Time text result = result ≡ timed_of text
ReadsResult Moves text result = ReadsSolution text result
ReadsResult Multi text result = result ≡ multi_of text

-- what is read of a text with no white space around
abbrev pub ReadsBare : Measure → List ℕ → Result Entered ScorecardFault → Type 0
ReadsBare unit text result =
    MatchBool (length text == 0) (result ≡ Err fault.Empty)
    (MatchBool (is_dnf unit text) (result ≡ Ok entered.Dnf)
    (MatchBool (is_dns unit text) (result ≡ Ok entered.Dns) (ReadsResult unit text result)))

-- what is read of a field
abbrev pub Reads : Measure → List ℕ → Result Entered ScorecardFault → Type 0
Reads unit text result = ReadsBare unit (trimmed text) result

-- an outcome is read, unless memory runs out for the moves of a solution
abbrev pub IsReadAs : Measure → Entered → Result Entered ScorecardFault → Type 0
IsReadAs unit outcome result =
    (result ≡ Ok outcome) ⊎ ((unit ≡ Moves) × (result ≡ Err fault.NoMemory))
