use Rattle.std.proofs.Common.{append_assoc}
use Rattle.table_views.proofs.Tails.{same_end}
use Rattle.table_views.proofs.recent.push_line_of.Goals as goal

pub returns : goal.returns
returns c =
    same_end c.extend_from_slice-3.result _ _ _ _
    (simp (c.in_ok-push_forms.ensures, c.in_ok-extend_from_slice-2.ensures.items)
    (simp (c.in_ok-push_state.ensures, c.in_ok-extend_from_slice.ensures.items)
    (simp (c.in_ok-push_item.ensures, c.in_ok-push_line_start.ensures, c.id.ensures.id)
    (simp (c.meet.ensures, c.text.ensures.text, append_assoc)))))
    c.extend_from_slice-3.ensures.items
