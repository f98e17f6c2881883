use Rattle.std.proofs.Common.{append_assoc}
use Rattle.table_round_views.specs.Opening.{cutoff_select}
use Rattle.table_views.proofs.Tails.{same_after}
use Rattle.table_round_views.proofs.opening.push_cutoff_select.Goals as goal

pub returns : goal.returns
unfolding cutoff_select
returns c =
    same_after c.push_border.result _ _ _
    (simp (c.in_ok-extend_from_slice-2.ensures.items, c.in_ok-push_each_after.ensures)
    (simp (c.in_ok-extend_from_slice.ensures.items, c.most_attempts.ensures)
    (simp (c.deref.ensures.value, c.in_ok-border.ensures, append_assoc)))) c.push_border.ensures
