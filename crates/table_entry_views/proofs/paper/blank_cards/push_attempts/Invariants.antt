use Rattle.std.proofs.Common.{◌≡◌, ◌++◌, drop, flat_map}
use Rattle.table_entry_views.specs.paper.Scorecards.{attempt_row}
use Rattle.table_entry_views.proofs.paper.blank_cards.push_attempts.Given as goal

-- what was written, and what is written for those that are left, is the whole
abbrev pub invariant-loop-attempt : goal.invariant-loop-attempt
invariant-loop-attempt l =
    l.out.items ++ flat_map (attempt_row l.cutoff) (drop l.attempt-index l.attempts)
    ≡ l.initial.out.items ++ flat_map (attempt_row l.cutoff) l.attempts
