use Rattle.std.proofs.Common.{append_assoc}
use Rattle.table_round_views.specs.Rounds.{closed_forms}
use Rattle.table_views.proofs.Tails.{same_after}
use Rattle.table_round_views.proofs.round_forms.push_closed.Goals as goal

pub returns : goal.returns
unfolding closed_forms
returns c =
    same_after c.push_again.result _ _ _
    (simp (c.in_ok-push_next.ensures, c.in_ok-push_through.ensures)
    (simp (c.in_ok-extend_from_slice.ensures.items, c.meet.ensures, append_assoc)))
    c.push_again.ensures
