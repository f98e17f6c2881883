use Rattle.pages.proofs.Finding.{EachBelow, IsTimely}
use Rattle.pages.proofs.table.BrowserTable.first_late.Given as goal

-- none that was looked at is late
abbrev pub invariant-loop-place : goal.invariant-loop-place
invariant-loop-place g l = EachBelow l.self l.place (IsTimely l.self)
