use Rattle.multiplex.specs.model.Tables.{IsEarliest}
use Rattle.multiplex.proofs.table.longest_silent.Given as goal

-- those before this place were looked at
abbrev pub invariant-loop-place : goal.invariant-loop-place
invariant-loop-place l = IsEarliest l.found l.earliest l.place l.guests
