use Rattle.std.proofs.Common.{append_assoc}
use Rattle.table_round_views.specs.Closing.{close}
use Rattle.table_views.proofs.Tails.{same_after}
use Rattle.table_round_views.proofs.closing.push_close.Goals as goal

pub returns : goal.returns
unfolding close
returns c =
    same_after c.push_button.result _ _ _
    (simp (c.in_ok-push_told.ensures, c.in_ok-push_round_form.ensures)
    (simp (c.in_ok-extend_from_slice.ensures.items, c.deref.ensures.value, c.in_ok-text.ensures)
    (simp (append_assoc)))) c.push_button.ensures
