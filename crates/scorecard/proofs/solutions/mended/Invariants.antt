use Rattle.std.proofs.Common.{◌≡◌, ◌≤◌, ◌++◌, drop}
use Rattle.scorecard.specs.Spelling.{mended_after}
use Rattle.scorecard.proofs.solutions.mended.Given as goal

abbrev pub invariant-loop-place : goal.invariant-loop-place
invariant-loop-place l = record {
  done : l.text.items ++ mended_after l.skipped (drop l.place l.bytes) ≡ mended_after 0 l.bytes;
  few : l.skipped ≤ 2;
}
