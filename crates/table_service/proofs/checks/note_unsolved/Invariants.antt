use Rattle.std.proofs.Common.{◌≡◌, ◌++◌, ◌-◌, flat_map, length, min}
use Rattle.std.specs.List.{range_with_len}
use Rattle.commands.specs.Accepted.{scramble_of}
use Rattle.table_service.specs.Checks.{unsolved_at, unsolved_notes}
use Rattle.table_service.proofs.checks.note_unsolved.Given as goal

abbrev pub invariant-loop-at : goal.invariant-loop-at
invariant-loop-at l = record {
  end : l.at-end ≡ min (length l.now) 5;
  left : l.notes.items
      ++ flat_map (unsolved_at (scramble_of l.meet.accepted l.id.event l.id.round) l.now l.left)
      (range_with_len l.at (min (length l.now) 5 - l.at)) ≡ l.initial.notes.items
      ++ unsolved_notes (scramble_of l.meet.accepted l.id.event l.id.round) l.now l.left;
}
