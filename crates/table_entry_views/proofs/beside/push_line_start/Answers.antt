use Rattle.std.proofs.Common.{append_assoc}
use Rattle.table_entry_views.proofs.beside.push_line_start.Goals as goal

pub returns : goal.returns
returns c =
    simp (c.in_ok-extend_from_slice-4.ensures.items, c.in_ok-push_was.ensures)
    (simp (c.in_ok-extend_from_slice-3.ensures.items, c.in_ok-extend_from_slice-2.ensures.items)
    (simp (c.in_ok-extend_from_slice.ensures.items, c.class_of.ensures, append_assoc)))
