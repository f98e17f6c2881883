-- The checks of attempts, scrambles and entries. They and their order are this project's own.
use Rattle.std.specs.Prelude.{ℕ, Bool, true, false, not, ◌&&◌, nat_lt, if◌then◌else◌, List, is_some}
use Rattle.std.specs.Prelude.{Option, None, Some}
use Rattle.std.specs.{List.list_any, Option.option_or, Option.option_map, Option.option_and_then}
use Rattle.cube.specs.declared.moves.Move.{Move}
use Rattle.attempts.specs.declared.Unit.{Unit as Measure}
use Rattle.formats.specs.{declared.events.Event.Event, Events.unit_of, Events.attempts_of}
use Rattle.texts.specs.declared.command.{Entered.Entered, Settings.Settings}
use Rattle.texts.specs.declared.answer.Code.{Code}
use Rattle.rounds.specs.Tables.{Table, enter_fault, put_fault, correct_fault, strike_fault}
use Rattle.rounds.specs.Tables.{withdraw_fault, has_done, entrant, standings}
use Rattle.advancement.specs.Advancing.{holds_of}
use Rattle.commands.specs.{Values.settled, FaultCodes.withdraw_code}
use Rattle.commands.specs.FaultCodes.{enter_code, put_code, correct_code, strike_code}
use Rattle.attempts.specs.declared.Unit.TheVariants as measure
use Rattle.texts.specs.declared.command.Entered.TheVariants as entered
use Rattle.texts.specs.declared.answer.Code.TheVariants as code

-- timed events alone accept times
abbrev pub is_time : Measure → Bool
is_time measure.Time = true
is_time measure.Moves = false
is_time measure.Multi = false

-- fewest moves alone accepts scrambles and solutions
abbrev pub is_moves : Measure → Bool
is_moves measure.Moves = true
is_moves measure.Time = false
is_moves measure.Multi = false

-- multi-blind alone accepts cubes
abbrev pub is_multi : Measure → Bool
is_multi measure.Multi = true
is_multi measure.Time = false
is_multi measure.Moves = false

-- what was entered is not what an event accepts: a time in fewest moves and multi-blind, a solution
-- but in fewest moves, cubes but in multi-blind
abbrev pub is_wrong : Measure → Entered → Bool
is_wrong unit (entered.Time time penalties) = not (is_time unit)
is_wrong unit (entered.Solution solution) = not (is_moves unit)
is_wrong unit (entered.Multi solved attempted seconds) = not (is_multi unit)
is_wrong unit entered.Dnf = false
is_wrong unit entered.Dns = false

-- a solution, for an attempt that has no scramble
abbrev pub lacks_scramble : Option (List Move) → Entered → Bool
lacks_scramble scramble (entered.Solution solution) = not (is_some scramble)
lacks_scramble scramble _ = false

-- the first check of a scramble that fails
abbrev pub scramble_refusal : Event → ℕ → Option (List Move) → Option (Settings × Table)
    → Option Code
scramble_refusal e k scramble None = Some code.RoundUnknown
scramble_refusal e k scramble (Some round) =
    if round.1.is_closed then Some code.Closed
    else if not (is_moves (unit_of e)) then Some code.WrongOutcome
    else if nat_lt (attempts_of round.0.format) k then Some code.NoSuchAttempt
    else if is_some scramble then Some code.ScrambleThere
    else None

-- attempt k of the entrant with a number counts, and a solution was entered for it
abbrev pub has_solved : (ℕ → Bool) → Table → ℕ → ℕ → Bool
has_solved solved t k n = holds_of (has_done k) (entrant t n) && solved n

-- the first check of another scramble that fails; the numbers are those for whose attempt a
-- solution was entered last
abbrev pub rescramble_refusal : Event → ℕ → Option (List Move) → (ℕ → Bool)
    → Option (Settings × Table) → Option Code
rescramble_refusal e k scramble solved None = Some code.RoundUnknown
rescramble_refusal e k scramble solved (Some round) =
    if not (is_moves (unit_of e)) then Some code.WrongOutcome
    else if not (is_some scramble) then Some code.NoScramble
    else if round.1.is_closed then Some code.Closed
    else if list_any (has_solved solved round.1 k) (standings round.1) then Some code.HasAttempts
    else None

-- the first check that fails of what was entered, under the scramble that the attempt has
abbrev pub unfit_refusal : Event → Option (List Move) → Entered → Option Code
unfit_refusal e scramble x =
    if is_wrong (unit_of e) x then Some code.WrongOutcome
    else if lacks_scramble scramble x then Some code.NoScramble
    else None

-- the first check of an attempt, or of its correction, that fails; the table's own checks come last
abbrev pub entered_refusal : Event → Entered → Option (List Move) → (Settings × Table → Option Code)
    → Option (Settings × Table) → Option Code
entered_refusal e x scramble table_refusal None = Some code.RoundUnknown
entered_refusal e x scramble table_refusal (Some round) =
    option_or (unfit_refusal e scramble x) (table_refusal round)

abbrev pub put_refusal : ℕ → ℕ → Settings × Table → Option Code
put_refusal n k round = option_map put_code (put_fault round.1 n k)

abbrev pub correct_refusal : ℕ → ℕ → Option (List Move) → Entered → Settings × Table → Option Code
correct_refusal n k scramble x round =
    option_map correct_code (correct_fault round.1 n k (settled round.0 scramble x))

abbrev pub strike_refusal : ℕ → Option (Settings × Table) → Option Code
strike_refusal n None = Some code.RoundUnknown
strike_refusal n (Some round) = option_map strike_code (strike_fault round.1 n)

abbrev pub enter_refusal : ℕ → Option (Settings × Table) → Option Code
enter_refusal n None = Some code.RoundUnknown
enter_refusal n (Some round) = option_and_then enter_code (enter_fault round.1 n)

-- the first check of a withdrawal that fails
abbrev pub withdraw_refusal : ℕ → Option (Settings × Table) → Option Code
withdraw_refusal n None = Some code.RoundUnknown
withdraw_refusal n (Some round) = option_and_then withdraw_code (withdraw_fault round.1 n)
