use Rattle.std.proofs.Common.{append_assoc}
use Rattle.table_entry_views.specs.Fields.{who}
use Rattle.table_entry_views.proofs.fields.push_who.Goals as goal

pub returns : goal.returns
unfolding who
returns c =
    simp (c.in_ok-extend_from_slice-2.ensures.items, c.in_ok-push_name_if.ensures)
    (simp (c.in_ok-extend_from_slice.ensures.items, append_assoc))
