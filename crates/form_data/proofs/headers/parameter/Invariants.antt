use Rattle.std.proofs.Common.{◌≡◌, drop, false}
use Rattle.form_data.specs.Headers.{parameter}
use Rattle.form_data.proofs.headers.parameter.Given as goal

abbrev pub invariant-loop-place : goal.invariant-loop-place
invariant-loop-place l =
    parameter l.name l.quoted (drop l.place l.bytes) ≡ parameter l.name false l.bytes
