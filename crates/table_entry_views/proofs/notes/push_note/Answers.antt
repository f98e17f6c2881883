use Rattle.std.proofs.Common.{append_assoc}
use Rattle.table_entry_views.specs.Notes.{note_line}
use Rattle.table_views.proofs.Tails.{same_end}
use Rattle.table_entry_views.proofs.notes.push_note.Goals as goal

pub returns : goal.returns
unfolding note_line
returns c =
    same_end c.extend_from_slice-2.result _ _ _ _
    (simp (c.in_ok-extend_from_slice.ensures.items, c.in_ok-push_words.ensures, append_assoc)) c.extend_from_slice-2.ensures.items
