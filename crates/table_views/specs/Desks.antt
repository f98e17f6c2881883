-- What is known of the desks (the project's own).
use Rattle.std.specs.Prelude.{ℕ, ◌/◌, ◌==◌, ◌&&◌, Bool, false, Option, None, Some}
use Rattle.std.specs.Prelude.{nat_le, nat_lt, count_by, length}
use Rattle.table_views.specs.declared.desks.HallStatus.{HallStatus}

-- a log of this length, where it is known, has this many entries
abbrev pub holds : ℕ → Option ℕ → Bool
holds position None = false
holds position (Some length) = nat_le position length

-- how many desks are known to have this many entries
abbrev pub holding : HallStatus → ℕ → ℕ
holding desks position = count_by (holds position) desks.lengths.items

-- all desks of the hall are known to have this many entries
abbrev pub is_everywhere : HallStatus → ℕ → Bool
is_everywhere desks position =
    nat_lt 0 (length desks.lengths.items) && holding desks position == length desks.lengths.items

-- no majority of the desks answers
abbrev pub too_few : HallStatus → Bool
too_few desks = nat_lt (length desks.lengths.items / 2) (length desks.away.items)
