use Rattle.std.proofs.Common.{append_assoc}
use Rattle.table_entry_views.specs.Fields.{beside_field, stands_start}
use Rattle.table_entry_views.proofs.fields.push_beside.Goals as goal

pub returns : goal.returns
unfolding beside_field stands_start
returns c =
    simp (c.in_ok-extend_from_slice-3.ensures.items, c.in_ok-push_said.ensures)
    (simp (c.in_ok-extend_from_slice-2.ensures.items, c.in_ok-push_shown.ensures)
    (simp (c.in_ok-extend_from_slice.ensures.items, c.saturating_sub-place.ensures)
    (simp (c.notes_of.ensures, c.from.ensures, append_assoc))))
