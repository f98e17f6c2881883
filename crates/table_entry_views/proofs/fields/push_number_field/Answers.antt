use Rattle.std.proofs.Common.{append_assoc}
use Rattle.table_entry_views.specs.Fields.{number_field}
use Rattle.table_entry_views.proofs.fields.push_number_field.Goals as goal

pub returns : goal.returns
unfolding number_field
returns c =
    simp (c.in_ok-extend_from_slice-2.ensures.items, c.in_ok-push_said.ensures)
    (simp (c.in_ok-push_who.ensures, c.in_ok-push_field_end.ensures)
    (simp (c.in_ok-push_number_text.ensures, c.in_ok-extend_from_slice.ensures.items)
    (simp (c.notes_of.ensures, c.competitor_of.ensures, c.notes_of-2.ensures, append_assoc))))
