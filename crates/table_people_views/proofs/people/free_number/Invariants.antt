use Rattle.std.proofs.Common.{◌≡◌, ℕ, ◌+◌, ◌<◌, None}
use Rattle.commands.specs.Accepted.{name_of}
use Rattle.table_people_views.proofs.people.free_number.Given as goal

-- nobody has a number that was looked at
abbrev pub invariant-loop-back : goal.invariant-loop-back
invariant-loop-back l =
    (k : ℕ) → 9999 < k + l.back → k < 9999 → name_of l.meet.accepted k ≡ None
