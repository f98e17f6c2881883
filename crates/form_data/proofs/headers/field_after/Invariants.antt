use Rattle.std.proofs.Common.{◌≡◌, drop}
use Rattle.form_data.specs.Headers.{field_after}
use Rattle.form_data.proofs.headers.field_after.Given as goal

abbrev pub invariant-loop-place : goal.invariant-loop-place
invariant-loop-place l = field_after l.name (drop l.place l.fields) ≡ field_after l.name l.fields
