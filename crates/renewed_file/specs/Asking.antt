-- When the system is asked whether the competition's file was changed, and what is kept of its
-- answer (the project's own).
use Rattle.std.specs.Prelude.{ℕ, ◌+◌, ◌-◌, ◌^◌, ◌==◌, ◌&&◌, min, not, nat_le, Bool, false, true}
use Rattle.std.specs.Prelude.{if◌then◌else◌, Option, None, Some}

-- the last change that the system said, in nanoseconds since 1970, and from when on it is asked
-- again, in milliseconds
pub record Watch : Type 0 where
  pub changed : Option ℕ
  pub next : ℕ

abbrev pub first_watch : Option ℕ → Watch
first_watch said = record { changed = said; next = 0 }

abbrev pub is_due : Watch → ℕ → Bool
is_due w now = nat_le w.next now

-- it says a time, and another than before
abbrev pub is_other : Option ℕ → Option ℕ → Bool
is_other None before = false
is_other (Some said) None = true
is_other (Some said) (Some before) = not (said == before)

-- the file was changed since the system was asked last: it is asked every five seconds at most
abbrev pub is_changed : Option ℕ → Watch → ℕ → Bool
is_changed said w now = is_due w now && is_other said w.changed

-- after it was asked
abbrev pub noted : Option ℕ → Watch → ℕ → Watch
noted said w now =
    record {
      changed = if is_other said w.changed then said else w.changed;
      next = min (now + 5000) (2 ^ 64 - 1);
    }

-- after a time at which it may be asked
abbrev pub asked : Option ℕ → Watch → ℕ → Watch
asked said w now = if is_due w now then noted said w now else w
