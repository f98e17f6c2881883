use Rattle.std.proofs.Common.{◌≡◌, vec_len}
use Rattle.hall_file.proofs.hall_options.finding.desks_at.Given as goal

abbrev pub invariant-loop-text : goal.invariant-loop-text
invariant-loop-text l = vec_len l.desks ≡ l.text-index
