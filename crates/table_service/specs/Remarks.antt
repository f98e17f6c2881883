-- The remark of what a table enters: its name, and the time of the machine's clock (the project's
-- own).
use Rattle.std.specs.Prelude.{ℕ, ◌/◌, ◌%◌, ◌++◌, ◌&&◌, Bool, List, Option, None, Some, codes, []}
use Rattle.std.specs.Prelude.{if◌then◌else◌, length, nat_le}
use Rattle.acceptor.specs.declared.entry.Entry.{Entry}
use Rattle.attempts.specs.Texts.{two_digits}
use Rattle.table_views.specs.{Editions.is_latest, Logs.accepted_in}
use Rattle.texts.specs.Names.{is_clear_name}

-- a table can have this name
abbrev pub is_table_name : List ℕ → Bool
is_table_name bytes = nat_le (length bytes) 60 && is_clear_name bytes

-- the time of the day, in UTC, of this many seconds since 1970: `14:05:33 UTC`
abbrev pub time_of_day : ℕ → List ℕ
time_of_day seconds =
    two_digits (seconds / 3600 % 24) ++ codes ":" ++ two_digits (seconds / 60 % 60) ++ codes ":"
    ++ two_digits (seconds % 60) ++ codes " UTC"

-- the name, and the time where the clock gives it
abbrev pub remark_of : List ℕ → Option ℕ → List ℕ
remark_of name None = name
remark_of name (Some seconds) = name ++ codes " " ++ time_of_day seconds

-- in a hall of an earlier edition commands have none
abbrev pub remark_under : List Entry → List ℕ → List ℕ
remark_under log remark = if is_latest (accepted_in log) then remark else []
