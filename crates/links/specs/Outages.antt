-- What is said of another desk, and when (the project's own).
use Rattle.std.specs.Prelude.{ℕ, ◌-◌, ◌/◌, nat_le, Option, None, Some, Bool, true, if◌then◌else◌}
use Rattle.links.specs.declared.notices.{Notice.Notice, Outage.Outage}
use Rattle.links.specs.declared.notices.Notice.TheVariants as notice
use Rattle.links.specs.declared.notices.Outage.TheVariants as outage

-- when the last line was told, and what is known of the desk
pub record Telling : Type 0 where
  pub last : Option ℕ
  pub outage : Outage

abbrev pub new_telling : Telling
new_telling = record { last = None; outage = outage.Reachable }

abbrev pub with_outage : Telling → Outage → Telling
with_outage n o = record { last = n.last; outage = o }

-- the last line was told a second ago, or none was
abbrev pub is_free : Option ℕ → ℕ → Bool
is_free None now = true
is_free (Some last) now = nat_le 1000 (now - last)

-- an outage begins with the first failure, and goes on where the desk was reached for a while of
-- which nothing was told
abbrev pub failed_in : Outage → ℕ → Outage
failed_in outage.Reachable now = outage.Untold now
failed_in (outage.Untold since) now = outage.Untold since
failed_in (outage.Told since) now = outage.Told since
failed_in (outage.Back since until) now = outage.Told since

-- an outage of which nothing was told is over without a word
abbrev pub reached_in : Outage → ℕ → Outage
reached_in outage.Reachable now = outage.Reachable
reached_in (outage.Untold since) now = outage.Reachable
reached_in (outage.Told since) now = outage.Back since now
reached_in (outage.Back since until) now = outage.Back since until

-- a failure came, or the desk was reached
abbrev pub failing : Telling → ℕ → Telling
failing n now = with_outage n (failed_in n.outage now)

abbrev pub reaching : Telling → ℕ → Telling
reaching n now = with_outage n (reached_in n.outage now)

-- what is to be told of it
abbrev pub line_of : Outage → Option Notice
line_of outage.Reachable = None
line_of (outage.Untold since) = Some notice.Unreachable
line_of (outage.Told since) = None
line_of (outage.Back since until) = Some (notice.Reached ((until - since) / 1000))

-- once that is told
abbrev pub told : Outage → Outage
told outage.Reachable = outage.Reachable
told (outage.Untold since) = outage.Told since
told (outage.Told since) = outage.Told since
told (outage.Back since until) = outage.Reachable

-- the line that is due
abbrev pub due_line : Telling → ℕ → Option Notice
due_line n now = if is_free n.last now then line_of n.outage else None

-- the time of the last line, where this one is told now
abbrev pub last_of : Option Notice → Option ℕ → ℕ → Option ℕ
last_of None last now = last
last_of (Some line) last now = Some now

abbrev pub all_told : Telling → ℕ → Telling
all_told n now =
    record { last = last_of (line_of n.outage) n.last now; outage = told n.outage }

abbrev pub after_due : Telling → ℕ → Telling
after_due n now = if is_free n.last now then all_told n now else n

abbrev pub foreign_line : Telling → ℕ → Option Notice
foreign_line n now = if is_free n.last now then Some notice.Foreign else None

abbrev pub after_foreign : Telling → ℕ → Telling
after_foreign n now =
    if is_free n.last now then record { last = Some now; outage = n.outage } else n
