use Rattle.hall_file.proofs.Places.{RunsTo}
use Rattle.hall_file.proofs.line.place_of.Given as goal

abbrev pub invariant-loop-i : goal.invariant-loop-i
invariant-loop-i l = RunsTo l.bytes l.name l.place l.i
