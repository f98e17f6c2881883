use Rattle.std.proofs.Common.{◌≡◌, drop}
use Rattle.form_data.specs.Cutting.{begins_as}
use Rattle.form_data.proofs.cutting.begins_as.Given as goal

abbrev pub invariant-loop-place : goal.invariant-loop-place
invariant-loop-place l =
    begins_as (drop l.place l.word) (drop l.place l.bytes) ≡ begins_as l.word l.bytes
