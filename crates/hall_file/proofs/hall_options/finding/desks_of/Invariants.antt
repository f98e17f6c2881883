use Rattle.std.proofs.Common.{◌≡◌, vec_len}
use Rattle.hall_file.proofs.hall_options.finding.desks_of.Given as goal

abbrev pub invariant-loop-place : goal.invariant-loop-place
invariant-loop-place l = vec_len l.desks ≡ l.place
