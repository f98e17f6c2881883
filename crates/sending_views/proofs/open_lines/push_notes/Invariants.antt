use Rattle.std.proofs.Common.{◌≡◌, ◌++◌, drop, flat_map}
use Rattle.sending_views.specs.Lines.{note_line}
use Rattle.sending_views.proofs.open_lines.push_notes.Given as goal

-- what was written, and what is written for those that are left, is the whole
abbrev pub invariant-loop-note : goal.invariant-loop-note
invariant-loop-note l =
    l.out.items ++ flat_map (note_line l.meet.accepted) (drop l.note-index l.notes)
    ≡ l.initial.out.items ++ flat_map (note_line l.meet.accepted) l.notes
