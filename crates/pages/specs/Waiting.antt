-- For how long a browser is waited for (the project's own).
use Rattle.std.specs.Prelude.{ℕ, ◌-◌, ◌==◌, ◌&&◌, ◌||◌, ltb, Bool, true, false, if◌then◌else◌}
use Rattle.std.specs.Prelude.{Option, None, Some}
use Rattle.pages.specs.declared.waiting.{TurnOutcome.TurnOutcome, Waiting.Waiting, Longest.Longest}
use Rattle.pages.specs.declared.waiting.TurnOutcome.TheVariants as turn

abbrev pub waits : ℕ → Bool → Waiting
waits since is_idle = record { since = since; is_idle = is_idle }

-- the time counts anew once all answers are taken, and with the first turn after that
abbrev pub after : TurnOutcome → ℕ → Waiting → Waiting
after turn.Answered now w = waits now true
after turn.Waits now w = if w.is_idle then waits now false else w
after turn.Over now w = if w.is_idle then waits now false else w

abbrev pub is_late : ℕ → ℕ → Waiting → Bool
is_late now patience w = ltb patience (now - w.since)

-- which of two is waited for longer; of two that are waited for equally long, the one that came
-- first
abbrev pub is_longer : ℕ → ℕ → ℕ → Waiting → Bool
is_longer number since other w = ltb w.since since || (w.since == since && ltb number other)

-- of one and of the one that was found, if one was, the one that is waited for longer
abbrev pub longer : ℕ → Option Longest → Waiting → Longest
longer number None w = record { number = number; since = w.since }
longer number (Some one) w =
    if is_longer number one.since one.number w then record { number = number; since = w.since }
    else one

-- whether the connection goes on after such a turn
abbrev pub goes_on : TurnOutcome → Bool
goes_on turn.Over = false
goes_on turn.Answered = true
goes_on turn.Waits = true
