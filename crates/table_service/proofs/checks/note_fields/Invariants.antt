use Rattle.std.proofs.Common.{◌≡◌, ◌++◌, ◌+◌, drop}
use Rattle.table_service.specs.Checks.{field_notes}
use Rattle.table_service.proofs.checks.note_fields.Given as goal

abbrev pub invariant-loop-place : goal.invariant-loop-place
invariant-loop-place l =
    l.notes.items ++ field_notes (l.place + 1) (drop l.place l.faults)
    ≡ l.initial.notes.items ++ field_notes 1 l.faults
