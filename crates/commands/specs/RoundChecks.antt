-- The checks of a round's settings, of its closing and of its opening again. They and their order
-- are this project's own; a rule of the WCA Regulations is named with its article.
use Rattle.std.specs.Prelude.{ℕ, ◌+◌, ◌-◌, Bool, true, false, not, ◌&&◌, nat_lt, if◌then◌else◌}
use Rattle.std.specs.Prelude.{is_some, Option, None, Some}
use Rattle.std.specs.{List.list_any, List.range_with_len, Option.option_or, Option.option_map}
use Rattle.attempts.specs.declared.Unit.{Unit as Measure}
use Rattle.formats.specs.declared.events.{Event.Event, Format.Format}
use Rattle.formats.specs.Events.{unit_of, is_allowed, attempts_of}
use Rattle.formats.specs.declared.advance.Advance.{Advance}
use Rattle.formats.specs.declared.advance.Advance.TheVariants.{Final, Top, Percent}
use Rattle.texts.specs.declared.{command.Settings.Settings, answer.Code.Code}
use Rattle.rounds.specs.declared.fault.{ReopenFault.ReopenFault, CloseFault.CloseFault}
use Rattle.rounds.specs.Tables.{Table, started, close_fault, rules_fault, reopen_fault}
use Rattle.advancement.specs.Advancing.{later_rounds}
use Rattle.commands.specs.FaultCodes.{close_code, rules_code, reopen_code}
use Rattle.commands.specs.AttemptChecks.{is_multi}
use Rattle.attempts.specs.declared.Unit.TheVariants as measure
use Rattle.texts.specs.declared.answer.Code.TheVariants as code

-- a cutoff counts fewer attempts than the format has; multi-blind has no cutoff
abbrev pub is_cutoff : Measure → Format → Option (ℕ × ℕ) → Bool
is_cutoff unit format None = true
is_cutoff unit format (Some cutoff) = not (is_multi unit) && nat_lt cutoff.0 (attempts_of format)

-- timed events have a limit, and others have none
abbrev pub is_limit : Measure → Option ℕ → Bool
is_limit measure.Time limit = is_some limit
is_limit measure.Moves limit = not (is_some limit)
is_limit measure.Multi limit = not (is_some limit)

-- the first check of the settings of a round that fails
abbrev pub settings_refusal : Event → Format → Option (ℕ × ℕ) → Option ℕ → Option Code
settings_refusal e format cutoff limit =
    if not (is_allowed e format) then Some code.FormatNotAllowed
    else if not (is_cutoff (unit_of e) format cutoff) then Some code.CutoffNotAllowed
    else if not (is_limit (unit_of e) limit) then Some code.LimitNotAllowed
    else None

-- the first check of other settings that fails: the table's own checks, then those of the settings
abbrev pub rules_refusal : Event → Format → Option (ℕ × ℕ) → Option ℕ
    → Option (Settings × Table) → Option Code
rules_refusal e format cutoff limit None = Some code.RoundUnknown
rules_refusal e format cutoff limit (Some round) =
    option_or (option_map rules_code (rules_fault round.1)) (settings_refusal e format cutoff limit)

abbrev pub advance_refusal : Option (Settings × Table) → Option Code
advance_refusal None = Some code.RoundUnknown
advance_refusal (Some round) = if round.1.is_closed then Some code.Closed else None

abbrev pub is_final : Advance → Bool
is_final Final = true
is_final (Top number) = false
is_final (Percent percent) = false

-- a round is closed, and is not the event's last
abbrev pub leads_on : Option (Settings × Table) → Bool
leads_on None = false
leads_on (Some round) = round.1.is_closed && not (is_final round.0.advance)

-- how many competitors a round has
abbrev pub competitors_of : Option (Settings × Table) → ℕ
competitors_of None = 0
competitors_of (Some round) = started round.1

-- the competitors of round j, of whom there are this many, do not allow the r + 1 - j later rounds
-- up to round r + 1 (WCA Regulations, article 9m)
abbrev pub has_too_few : (ℕ → ℕ) → ℕ → ℕ → Bool
has_too_few competitors r j = nat_lt (later_rounds (competitors j)) (r + 1 - j)

-- round r is to be followed by another, and some round from 1 to r has too few competitors for it
abbrev pub breaks_rounds_rule : (ℕ → ℕ) → ℕ → Advance → Bool
breaks_rounds_rule competitors r advance =
    not (is_final advance) && list_any (has_too_few competitors r) (range_with_len 1 r)

-- the first check of a closing that fails, of a table that is there
abbrev pub end_refusal : Option CloseFault → Bool → Option Code
end_refusal (Some fault) breaks = Some (close_code fault)
end_refusal None breaks = if breaks then Some code.RoundsRule else None

abbrev pub close_refusal : (ℕ → ℕ) → ℕ → Option (Settings × Table) → Option Code
close_refusal competitors r None = Some code.RoundUnknown
close_refusal competitors r (Some round) =
    end_refusal (close_fault round.1) (breaks_rounds_rule competitors r round.0.advance)

-- the first check that fails of opening a closed round again, whose next one is open or not
abbrev pub again_refusal : Option ReopenFault → Bool → Option Code
again_refusal (Some fault) is_next_open = Some (reopen_code fault)
again_refusal None is_next_open = if is_next_open then Some code.RoundOpen else None

abbrev pub reopen_refusal : Option (Settings × Table) → Option (Settings × Table) → Option Code
reopen_refusal next None = Some code.RoundUnknown
reopen_refusal next (Some round) = again_refusal (reopen_fault round.1) (is_some next)
