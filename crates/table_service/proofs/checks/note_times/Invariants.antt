use Rattle.std.proofs.Common.{◌≡◌, ◌++◌, ◌-◌, flat_map, length, min}
use Rattle.std.specs.List.{range_with_len}
use Rattle.table_service.specs.Checks.{time_at, time_notes}
use Rattle.table_service.proofs.checks.note_times.Given as goal

abbrev pub invariant-loop-place : goal.invariant-loop-place
invariant-loop-place l = record {
  end : l.place-end ≡ min (length l.fields) 5;
  left : l.notes.items
      ++ flat_map (time_at l.bounds l.fields)
      (range_with_len l.place (min (length l.fields) 5 - l.place))
      ≡ l.initial.notes.items ++ time_notes l.bounds l.fields;
}
