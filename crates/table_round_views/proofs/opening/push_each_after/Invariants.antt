use Rattle.std.proofs.Common.{◌≡◌, ◌++◌, drop, flat_map}
use Rattle.table_round_views.specs.Opening.{cutoff_choice}
use Rattle.table_round_views.proofs.opening.push_each_after.Given as goal

-- what was written, and what is written for those that are left, is the whole
abbrev pub invariant-loop-number : goal.invariant-loop-number
invariant-loop-number l =
    l.out.items ++ flat_map (cutoff_choice l.cutoff) (drop l.number-index l.attempts)
    ≡ l.initial.out.items ++ flat_map (cutoff_choice l.cutoff) l.attempts
