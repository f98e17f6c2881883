use Rattle.std.proofs.Common.{append_assoc}
use Rattle.table_round_views.specs.Rounds.{link}
use Rattle.table_views.proofs.Tails.{same_after}
use Rattle.table_round_views.proofs.round_forms.push_link.Goals as goal

pub returns : goal.returns
unfolding link
returns c =
    same_after c.fill.result _ _ _
    (simp (c.in_ok-push_round_name.ensures, c.in_ok-extend_from_slice.ensures.items)
    (simp (append_assoc))) c.fill.ensures
