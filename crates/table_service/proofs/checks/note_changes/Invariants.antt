use Rattle.std.proofs.Common.{◌≡◌, ◌++◌, ◌-◌, flat_map, length, min}
use Rattle.std.specs.List.{range_with_len}
use Rattle.table_service.specs.Checks.{change_at, change_notes}
use Rattle.table_service.proofs.checks.note_changes.Given as goal

abbrev pub invariant-loop-place : goal.invariant-loop-place
invariant-loop-place l = record {
  end : l.place-end ≡ min (length l.was) 5;
  left : l.notes.items
      ++ flat_map (change_at l.was l.left) (range_with_len l.place (min (length l.was) 5 - l.place))
      ≡ l.initial.notes.items ++ change_notes l.was l.left;
}
