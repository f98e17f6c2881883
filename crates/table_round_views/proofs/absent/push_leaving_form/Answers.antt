use Rattle.std.proofs.Common.{append_assoc}
use Rattle.table_round_views.specs.Absent.{leaving_form}
use Rattle.table_views.proofs.Tails.{same_after}
use Rattle.table_round_views.proofs.absent.push_leaving_form.Goals as goal

pub returns : goal.returns
unfolding leaving_form
returns c =
    same_after c.push_lines_form.result _ _ _
    (simp (c.in_ok-extend_from_slice.ensures.items, c.deref.ensures.value, c.in_ok-back.ensures)
    (simp (c.deref-2.ensures.value, c.in_ok-lines.ensures, append_assoc))) c.push_lines_form.ensures
