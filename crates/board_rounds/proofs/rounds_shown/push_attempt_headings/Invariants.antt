use Rattle.std.proofs.Common.{◌≡◌, ◌++◌}
use Rattle.board_rounds.specs.Rounds.{attempt_headings}
use Rattle.board_rounds.proofs.rounds_shown.push_attempt_headings.Given as goal

-- a column was named for each attempt so far
abbrev pub invariant-loop-place : goal.invariant-loop-place
invariant-loop-place l = l.out.items ≡ l.initial.out.items ++ attempt_headings l.place
