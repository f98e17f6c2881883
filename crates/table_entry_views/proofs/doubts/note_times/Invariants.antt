use Rattle.std.proofs.Common.{◌≡◌, ◌++◌, ◌+◌, drop}
use Rattle.table_entry_views.specs.Doubts.{notes_from}
use Rattle.table_entry_views.proofs.doubts.note_times.Given as goal

abbrev pub invariant-loop-place : goal.invariant-loop-place
invariant-loop-place l =
    l.notes.items ++ notes_from l.bests (l.place + 1) (drop l.place l.fields)
    ≡ l.initial.notes.items ++ notes_from l.bests 1 l.fields
