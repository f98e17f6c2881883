use Rattle.std.proofs.Common.{append_assoc}
use Rattle.table_round_views.specs.Reopening.{again_form}
use Rattle.table_views.proofs.Tails.{same_after}
use Rattle.table_round_views.proofs.reopening.push_again_form.Goals as goal

pub returns : goal.returns
unfolding again_form
returns c =
    same_after c.push_button.result _ _ _
    (simp (c.in_ok-push_round_form.ensures, c.in_ok-extend_from_slice.ensures.items)
    (simp (append_assoc))) c.push_button.ensures
