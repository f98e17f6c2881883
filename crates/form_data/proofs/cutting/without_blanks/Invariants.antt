use Rattle.std.proofs.Common.{◌≡◌, drop}
use Rattle.form_data.specs.Cutting.{without_blanks}
use Rattle.form_data.proofs.cutting.without_blanks.Given as goal

abbrev pub invariant-loop-place : goal.invariant-loop-place
invariant-loop-place l = without_blanks (drop l.place l.bytes) ≡ without_blanks l.bytes
