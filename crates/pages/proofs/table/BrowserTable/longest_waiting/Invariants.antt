use Rattle.pages.proofs.Finding.{LongestBelow}
use Rattle.pages.proofs.table.BrowserTable.longest_waiting.Given as goal

-- of those that were looked at none is waited for longer
abbrev pub invariant-loop-place : goal.invariant-loop-place
invariant-loop-place g l = LongestBelow l.self l.place l.found
