use Rattle.std.proofs.Common.{append_assoc}
use Rattle.table_views.proofs.Tails.{same_after}
use Rattle.table_views.proofs.recent.push_link.Goals as goal

pub returns : goal.returns
returns c =
    same_after c.push_competitor.result _ _ _
    (simp (c.in_ok-push_round_name.ensures, c.in_ok-extend_from_slice.ensures.items)
    (simp (append_assoc))) c.push_competitor.ensures
